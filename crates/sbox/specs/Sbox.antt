-- The S-box of FIPS 197, section 5.1.1: the inverse in GF(2^8), then an affine map over the bits.
use Rattle.std.specs.Prelude.{List, [], ◌∷◌, ℕ, ◌+◌, ◌*◌, ◌/◌, ◌%◌, ◌^◌}
use Rattle.bits.specs.Xor.{◌⊕◌}
use Rattle.table.specs.Tabulate.{tabulate}
use Rattle.sbox.specs.Field.{inverse}

-- bit i of a byte, with i modulo 8
unfoldable pub bit : ℕ → ℕ → ℕ
bit b i = b / 2 ^ (i % 8) % 2

-- the constant c that the map adds
unfoldable pub constant : ℕ
constant = 0x63

-- b'_i = b_i ⊕ b_(i+4) ⊕ b_(i+5) ⊕ b_(i+6) ⊕ b_(i+7) ⊕ c_i
unfoldable pub affine_bit : ℕ → ℕ → ℕ
affine_bit b i = bit b i ⊕ bit b (i + 4) ⊕ bit b (i + 5) ⊕ bit b (i + 6) ⊕ bit b (i + 7) ⊕ bit constant i

-- the number that has these bits, lowest first
unfoldable pub from_bits : List ℕ → ℕ
from_bits [] = 0
from_bits (x ∷ xs) = x + 2 * from_bits xs

unfoldable pub affine : ℕ → ℕ
affine b = from_bits (tabulate 8 (affine_bit b))

-- the value at each byte, from 0 to 255
unfoldable pub sbox : List ℕ
sbox = tabulate 256 (λ b. affine (inverse b))
