-- `method2::r_prime` meets its contract.
use Rattle.bits.specs.Xor.{◌⊕◌}
use Rattle.lookup.specs.Method2.{r_prime}
use Rattle.method2.proofs.r_prime.Goals as goal

pub returns : goal.returns
unfolding r_prime ◌⊕◌
returns c = rw c.value_barrier-mixed.ensures
