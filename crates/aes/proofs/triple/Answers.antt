-- `aes::triple` meets its contract.
use Rattle.bits.specs.Xor.{◌⊕◌}
use Rattle.aes.proofs.Products.{triples}
use Rattle.aes.proofs.triple.Goals as goal

pub returns : goal.returns
unfolding ◌⊕◌
returns c = rw c.double.ensures (search triples)
