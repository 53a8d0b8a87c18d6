-- `selection::logged::run` meets its contract.
use Rattle.selection.proofs.Logging.{log_written}
use Rattle.selection.proofs.logged.run.Goals as goal

pub returns-clause-log_after : goal.returns-clause-log_after
returns-clause-log_after c = search log_written
