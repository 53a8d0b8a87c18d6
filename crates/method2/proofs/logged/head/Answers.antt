-- `method2::logged::head` meets its contract.
use mathlib.Core.Path.{refl}
use Rattle.bits.specs.Xor.{◌⊕◌}
use Rattle.lookup.specs.Method2.{r_prime}
use Rattle.method2.proofs.logged.head.Goals as goal

pub returns : goal.returns
unfolding r_prime ◌⊕◌
returns c = refl
