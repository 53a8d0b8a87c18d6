-- `method2::run` meets its contract.
use Rattle.method2.proofs.Filling.{filled_answers}
use Rattle.method2.proofs.run.Goals as goal

pub returns-clause-value : goal.returns-clause-value
returns-clause-value c = search filled_answers
