-- Exclusive or with a number of the width only puts the numbers of that width in another order: no sum over all of them changes.
use mathlib.Core.Path.{◌≡◌, sym, ap, ◌∙◌}
use Prim.Native.Nat.{ℕ, zero, suc, ◌+◌, ◌*◌, ◌/◌, ◌%◌, ◌^◌, ◌<◌}
use native.Mathlib.Nat.{add_comm, add-zero, pow-suc, div-add-mod', mod-lt}
use native.Mathlib.Omega.{arith}
use lib.Dec.{lit<}
use Rattle.bits.specs.Xor.{◌⊕◌}
use Rattle.bits.proofs.Xor.{bit_ind, pair, zero_r}
use Rattle.counting.specs.Sum.{sum}
use Rattle.counting.proofs.Sum.{sum_ext, sum_pairs}

-- the bits above the lowest are shifted by those of d, and the lowest by that of d
lowest_apart : (i d b : ℕ) → b < 2 → (i * 2 + b) ⊕ d ≡ (i ⊕ d / 2) * 2 + (b ⊕ d % 2)
lowest_apart i d b h = ap (λ x. (i * 2 + b) ⊕ x) (sym (div-add-mod' d 2)) ∙ pair i (d / 2) b (d % 2) h (mod-lt d (lit< tt))

-- so the two terms of a pair stay together: where the lowest bit of d is 1, they change places
pair_shift : (f : ℕ → ℕ) (d i : ℕ) → f (i * 2 ⊕ d) + f ((i * 2 + 1) ⊕ d) ≡ f ((i ⊕ d / 2) * 2) + f ((i ⊕ d / 2) * 2 + 1)
unfolding ◌⊕◌
pair_shift f d i =
    let s : ℕ = (i ⊕ d / 2) * 2 in
    rw (lowest_apart i d 1 (lit< tt), ← (add-zero (i * 2)), lowest_apart i d 0 (lit< tt))
    (bit_ind (λ b. f (s + (0 ⊕ b)) + f (s + (1 ⊕ b)) ≡ f s + f (s + 1)) (rw (add-zero s)) (rw (add-zero s) (add_comm (f (s + 1)) (f s))) d)

pub shift : (w : ℕ) (f : ℕ → ℕ) {d : ℕ} → d < 2 ^ w → sum (2 ^ w) (λ r. f (r ⊕ d)) ≡ sum (2 ^ w) f
shift zero f {d} h =
    let none : d ≡ 0 = omega arith in
    rw none (simp zero_r)
shift (suc w) f {d} h =
    rw (pow-suc, sum_pairs, sum_pairs)
    (sum_ext (2 ^ w) (λ i _. pair_shift f d i) ∙ shift w (λ i. f (i * 2) + f (i * 2 + 1)) (omega arith))
