use Rattle.log_entries.proofs.Logging.{logging_begins, rows_turns, rows_ends}
use Rattle.method3.proofs.Selecting.{selecting_begins, selecting_turns, selecting_ends}
use Rattle.method3.proofs.Turned.{turn_compared, turn_value, turn_register}
use Rattle.method3.proofs.logged.select.Goals as goal

pub loop-a-init : goal.loop-a-init
loop-a-init c = (search selecting_begins, search logging_begins)

pub bounds-registers-cmp : goal.bounds-registers-cmp
bounds-registers-cmp c = search turn_register

pub loop-a-preserved : goal.loop-a-preserved
loop-a-preserved c = (search (selecting_turns, turn_compared, turn_value), search rows_turns)

pub returns-clause-registers_after : goal.returns-clause-registers_after
returns-clause-registers_after c = search selecting_ends

pub returns-clause-log_after : goal.returns-clause-log_after
returns-clause-log_after c = search rows_ends
