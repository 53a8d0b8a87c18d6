-- `inverse` is what its name says: a byte times its inverse is 1, for each byte but 0, of which it is 0.
use mathlib.Core.Path.{◌≡◌, refl}
use mathlib.Core.Bool.{Bool, true}
use Prim.Native.Nat.{ℕ, zero, suc, ◌<◌}
use native.Mathlib.Nat.{le_of_suc-le-suc, not-suc-le-zero}
use borrow.Author.Tests.{eqb-true}
use lib.Dec.{eqb}
use Rattle.bits.specs.Xor.{◌⊕◌}
use Rattle.table.specs.Balanced.{all_below}
use Rattle.table.proofs.Balanced.{below}
use Rattle.sbox.specs.Field.{xtime, times_bits, times, square, inverse}

pub inverse_zero : inverse 0 ≡ 0
unfolding inverse square times times_bits xtime ◌⊕◌
inverse_zero = refl

product_is_one : ℕ → Bool
product_is_one b = eqb (times b (inverse b)) 1

-- 0 has no inverse, so the test goes from 1
each_product : all_below 255 (λ b. product_is_one (suc b)) ≡ true
unfolding all_below product_is_one inverse square times times_bits xtime ◌⊕◌
each_product = refl

pub times_inverse : (b : ℕ) → 0 < b → b < 256 → times b (inverse b) ≡ 1
unfolding product_is_one
times_inverse zero h k = absurd (not-suc-le-zero h)
times_inverse (suc b) h k =
    eqb-true (times (suc b) (inverse (suc b))) 1 (below 255 (λ i. product_is_one (suc i)) each_product b (le_of_suc-le-suc k))
