-- The map with 8-step operations and the row's place, which docs/DECISIONS.md calls 03's: for inputs of 8 bits, whatever the rows, it is
-- the map here.
use mathlib.Core.Path.{◌≡◌, ap, ◌∙◌}
use mathlib.Core.List.{List, [], ◌∷◌}
use Prim.Native.Nat.{ℕ, suc, ◌+◌, ◌*◌, ◌%◌, ◌^◌, ◌<◌}
use native.Mathlib.Nat.{pow-suc, mul-one, lt_of_le_of_lt}
use native.Mathlib.Omega.{arith}
use lib.Bits.{and_comm, and_le_l}
use Rattle.bits.proofs.Stepwise.{both_bits, both_bits_exact, both_bits_comm, ones_from, ones_from_exact}
use Rattle.linear.specs.Layer.{odd_common, mapped}

unfoldable pub mapped_from : (i : ℕ) → (rows : List ℕ) → (x : ℕ) → ℕ
mapped_from i [] x = 0
mapped_from i (r ∷ rows) x = (ones_from 8 (both_bits 8 r x) % 2) * 2 ^ i + mapped_from (suc i) rows x

odd_exact : (r x : ℕ) → x < 2 ^ 8 → ones_from 8 (both_bits 8 r x) % 2 ≡ odd_common r x
unfolding odd_common
odd_exact r x h =
    rw (both_bits_comm 8 r x, both_bits_exact 8 r h, and_comm r x) (ap (λ k. k % 2) (ones_from_exact 8 (lt_of_le_of_lt (and_le_l x r) h)))

placed : (i : ℕ) (rows : List ℕ) (x : ℕ) → x < 2 ^ 8 → mapped_from i rows x ≡ mapped rows x * 2 ^ i
unfolding mapped_from mapped
placed i [] x h = omega arith
placed i (r ∷ rows) x h = rw (odd_exact r x h, placed (suc i) rows x h, pow-suc 2 i) (omega arith)

pub mapped_exact : (rows : List ℕ) (x : ℕ) → x < 2 ^ 8 → mapped_from 0 rows x ≡ mapped rows x
mapped_exact rows x h = placed 0 rows x h ∙ mul-one _
