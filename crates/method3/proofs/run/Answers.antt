-- `method3::run` meets its contract.
use Rattle.method3.proofs.Selecting.{selected_answers}
use Rattle.method3.proofs.run.Goals as goal

pub returns-clause-value : goal.returns-clause-value
returns-clause-value c = search selected_answers
