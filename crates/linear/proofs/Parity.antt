-- Whether row and input have an odd number of ones in common is linear over ⊕.
use mathlib.Core.Path.{◌≡◌, refl, sym, ap, ap₂, ◌∙◌}
use Prim.Native.Nat.{ℕ, ◌/◌, ◌%◌, ◌<◌, min}
use native.Mathlib.Nat.{mod-lt, zero-min}
use native.Mathlib.Omega.{arith}
use lib.Arith.{bin_ind}
use lib.Bits.{bit_and, and_step}
use lib.Count.{ones, ones_step}
use lib.Dec.{lit<}
use Rattle.bits.specs.Xor.{◌⊕◌}
use Rattle.bits.proofs.Xor.{xors, bit_ind, half, lowest, odd_sum, pair, zero_l}
use Rattle.linear.specs.Layer.{odd_common}

-- a common bit
common_below : (a b : ℕ) → min (a % 2) (b % 2) < 2
common_below a b = omega arith

common_bit : (r x y : ℕ) → min (r % 2) ((x % 2) ⊕ (y % 2)) ≡ min (r % 2) (x % 2) ⊕ min (r % 2) (y % 2)
unfolding ◌⊕◌
common_bit r x y =
    bit_ind (λ p. min p ((x % 2) ⊕ (y % 2)) ≡ min p (x % 2) ⊕ min p (y % 2)) (simp zero-min)
    (bit_ind (λ q. min 1 (q ⊕ (y % 2)) ≡ min 1 q ⊕ min 1 (y % 2)) refl (bit_ind (λ s. min 1 (1 ⊕ s) ≡ min 1 1 ⊕ min 1 s) refl refl y) x) r

-- common bits distribute over ⊕
common : (r x y : ℕ) → bit_and r (x ⊕ y) ≡ bit_and r x ⊕ bit_and r y
common =
    bin_ind (λ r. (x y : ℕ) → bit_and r (x ⊕ y) ≡ bit_and r x ⊕ bit_and r y) (λ x y. sym (zero_l 0))
    (λ r ih x y.
    and_step r (x ⊕ y)
    ∙ rw (half x y, lowest x y, ih (x / 2) (y / 2), common_bit r x y)
    (sym (ap₂ ◌⊕◌ (and_step r x) (and_step r y) ∙ pair _ _ _ _ (common_below r x) (common_below r y))))

-- the lowest bit counts once
odd_step : (v : ℕ) → ones v % 2 ≡ (v % 2) ⊕ (ones (v / 2) % 2)
odd_step v = ap (λ k. k % 2) (ones_step v) ∙ odd_sum (v % 2) (ones (v / 2)) ∙ ap (λ k. k ⊕ (ones (v / 2) % 2)) (omega arith)

-- the count's lowest bit is linear
odd : (v w : ℕ) → ones (v ⊕ w) % 2 ≡ (ones v % 2) ⊕ (ones w % 2)
unfolding ones
odd =
    bin_ind (λ v. (w : ℕ) → ones (v ⊕ w) % 2 ≡ (ones v % 2) ⊕ (ones w % 2)) (λ w. simp zero_l)
    (λ v ih w. odd_step (v ⊕ w) ∙ rw (lowest v w, half v w, ih (w / 2)) (rw (odd_step v, odd_step w) (simp xors)))

pub odd_common_linear : (r x y : ℕ) → odd_common r (x ⊕ y) ≡ odd_common r x ⊕ odd_common r y
unfolding odd_common
odd_common_linear r x y = rw (common r x y) (odd (bit_and r x) (bit_and r y))

pub odd_common_below : (r x : ℕ) → odd_common r x < 2
unfolding odd_common
odd_common_below r x = mod-lt _ (lit< tt)
