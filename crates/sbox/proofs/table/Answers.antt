-- `sbox::table` meets its contract: the table that the rule makes is computed, and each entry compared.
use mathlib.Core.Path.{refl}
use Rattle.bits.specs.Xor.{◌⊕◌}
use Rattle.table.specs.Tabulate.{tabulate}
use Rattle.sbox.specs.Field.{xtime, times_bits, times, square, inverse}
use Rattle.sbox.specs.Sbox.{bit, constant, affine_bit, from_bits, affine, sbox}
use Rattle.sbox.proofs.table.Goals as goal

pub returns : goal.returns
unfolding sbox tabulate affine from_bits affine_bit bit constant inverse square times times_bits xtime ◌⊕◌
returns c = refl
