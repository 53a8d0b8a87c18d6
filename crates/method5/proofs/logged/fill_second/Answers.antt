use Rattle.log_entries.proofs.Logging.{logging_begins, rows_ends}
use Rattle.method5.proofs.Copying.{copying_begins, second_turns, second_ends}
use Rattle.method5.proofs.Turned.{second_copied, second_shown, second_logged}
use Rattle.method5.proofs.logged.fill_second.Goals as goal

pub loop-a-init : goal.loop-a-init
loop-a-init c = (search copying_begins, search logging_begins)

pub loop-a-preserved : goal.loop-a-preserved
loop-a-preserved c = (search (second_turns, second_copied), search (second_logged, second_shown))

pub returns-clause-scratch_after : goal.returns-clause-scratch_after
returns-clause-scratch_after c = search second_ends

pub returns-clause-log_after : goal.returns-clause-log_after
returns-clause-log_after c = search rows_ends
