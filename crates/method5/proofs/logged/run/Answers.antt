-- `method5::logged::run` meets its contract.
use Rattle.method5.proofs.Filled.{read_answers}
use Rattle.method5.proofs.Turned.{turned_whole}
use Rattle.method5.proofs.logged.run.Goals as goal

pub returns-clause-value : goal.returns-clause-value
returns-clause-value c = search read_answers

pub returns-clause-log_after : goal.returns-clause-log_after
returns-clause-log_after c = search turned_whole
