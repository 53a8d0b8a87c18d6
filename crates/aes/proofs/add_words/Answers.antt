-- `aes::add_words` meets its contract.
use mathlib.Core.Path.{refl}
use Rattle.bits.specs.Xor.{◌⊕◌}
use Rattle.table.specs.Balanced.{at}
use Rattle.aes.specs.State.{four, add_words}
use Rattle.aes.proofs.add_words.Goals as goal

pub returns : goal.returns
unfolding add_words four at ◌⊕◌
returns c = refl
