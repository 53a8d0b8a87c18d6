-- `method3::logged::run` meets its contract.
use Rattle.method3.proofs.Selecting.{read_answers}
use Rattle.method3.proofs.Turned.{turned_whole}
use Rattle.method3.proofs.logged.run.Goals as goal

pub returns-clause-value : goal.returns-clause-value
returns-clause-value c = search read_answers

pub returns-clause-log_after : goal.returns-clause-log_after
returns-clause-log_after c = search turned_whole
