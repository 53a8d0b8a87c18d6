use Rattle.log_entries.proofs.Logging.{logging_begins, rows_turns, rows_ends}
use Rattle.method2.proofs.Filling.{filling_begins, filling_turns, filling_in_scratch, filling_ends}
use Rattle.method2.proofs.Turned.{turn_place, turn_value}
use Rattle.method2.proofs.logged.fill.Goals as goal

pub loop-a-init : goal.loop-a-init
loop-a-init c = (search filling_begins, search logging_begins)

pub bounds-scratch-to : goal.bounds-scratch-to
bounds-scratch-to c = search (filling_in_scratch, turn_place)

pub loop-a-preserved : goal.loop-a-preserved
loop-a-preserved c = (search (filling_turns, turn_place, turn_value), search rows_turns)

pub returns-clause-scratch_after : goal.returns-clause-scratch_after
returns-clause-scratch_after c = search filling_ends

pub returns-clause-log_after : goal.returns-clause-log_after
returns-clause-log_after c = search rows_ends
