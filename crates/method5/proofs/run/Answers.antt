-- `method5::run` meets its contract.
use Rattle.method5.proofs.Filled.{read_answers}
use Rattle.method5.proofs.run.Goals as goal

pub returns-clause-value : goal.returns-clause-value
returns-clause-value c = search read_answers
