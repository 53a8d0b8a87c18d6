-- `aes::double` meets its contract: both sides are computed for every byte.
use Rattle.bits.specs.Xor.{◌⊕◌}
use Rattle.aes.proofs.Products.{doubled, doubles, doubled_fits}
use Rattle.aes.proofs.double.Goals as goal

pub overflow_cast-result : goal.overflow_cast-result
overflow_cast-result c = search doubled_fits

pub returns : goal.returns
unfolding doubled ◌⊕◌
returns c = search doubles
