-- `method5::fill` meets its contract.
use Rattle.method5.proofs.Filled.{filled_both}
use Rattle.method5.proofs.fill.Goals as goal

pub returns : goal.returns
returns c = search filled_both
