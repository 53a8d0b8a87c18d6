-- `frame::flat` meets its contract.
use mathlib.Core.Path.{refl}
use Rattle.table.specs.Balanced.{at}
use Rattle.aes.specs.State.{column, byte}
use Rattle.frame.specs.Frame.{flat}
use Rattle.frame.proofs.flat.Goals as goal

pub returns : goal.returns
unfolding flat byte column at
returns c = refl
