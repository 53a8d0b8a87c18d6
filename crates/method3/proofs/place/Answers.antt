-- `method3::place` meets its contract.
use Rattle.bits.specs.Xor.{◌⊕◌}
use Rattle.lookup.specs.Method3.{place_3}
use Rattle.method3.proofs.place.Goals as goal

pub returns : goal.returns
unfolding place_3 ◌⊕◌
returns c = rw c.value_barrier-twice.ensures
