-- The registers at b hold the half that the joined bit chooses, masked; three such halves join to the half of the joined word.
use mathlib.Core.Path.{◌≡◌, refl, sym, ap, ◌∙◌}
use mathlib.Core.Bool.{Bool, true, false, cond}
use mathlib.Core.List.{[], ◌∷◌}
use Prim.Native.Nat.{ℕ, zero, suc, ◌+◌, ◌-◌, ◌*◌, ◌/◌, ◌%◌, ◌^◌, ◌<◌}
use native.Mathlib.Nat.{mod-lt}
use native.Mathlib.Omega.{arith}
use borrow.Author.Tests.{eqb-true, eqb-false}
use lib.Dec.{eqb}
use lib.ListN.{set}
use lib.Pow.{pow_pos, shr_lt}
use Rattle.bits.specs.Xor.{◌⊕◌}
use Rattle.bits.proofs.Xor.{xors, high_bits, low_bits, below, different_bits, other_bit}
use Rattle.table.specs.Balanced.{at}
use Rattle.halves.specs.declared.Selection.{Selection}
use Rattle.halves.specs.Bounded.{Bounded}
use Rattle.halves.specs.Halves.{half, c3, masked, registers, share}
use Rattle.halves.proofs.Bounds.{c3_below}

-- a half has half the word's width, and the half of a sum is the sum of the halves
pub half_below : (width bit word : ℕ) → word < 2 ^ (2 * width) → half width bit word < 2 ^ width
unfolding half
half_below width bit word h = half_below_by_cases (eqb bit 0)
  where
    double : 2 * width ≡ width + width
    double = omega arith

    half_below_by_cases : (high : Bool) → cond high (word / 2 ^ width) (word % 2 ^ width) < 2 ^ width
    half_below_by_cases true = shr_lt width width (rw double at h)
    half_below_by_cases false = mod-lt word (pow_pos width)

half_sum : (width bit a b : ℕ) → half width bit a ⊕ half width bit b ≡ half width bit (a ⊕ b)
unfolding half
half_sum width bit a b = half_sum_by_cases (eqb bit 0)
  where
    half_sum_by_cases : (high : Bool)
        → cond high (a / 2 ^ width) (a % 2 ^ width) ⊕ cond high (b / 2 ^ width) (b % 2 ^ width)
        ≡ cond high ((a ⊕ b) / 2 ^ width) ((a ⊕ b) % 2 ^ width)
    half_sum_by_cases true = sym (high_bits width a b)
    half_sum_by_cases false = sym (low_bits width a b)

pub masked_join : (s : Selection) (bit : ℕ)
    → masked 0 s bit ⊕ masked 1 s bit ⊕ masked 2 s bit ≡ half s.width bit (s.z0 ⊕ s.z1 ⊕ s.z2)
unfolding masked
masked_join s bit =
    let w = s.width in
    let unmasked : masked 0 s bit ⊕ masked 1 s bit ⊕ masked 2 s bit ≡ half w bit s.z0 ⊕ half w bit s.z1 ⊕ half w bit s.z2 = simp xors in
    unmasked
    ∙ ap (λ x. x ⊕ half w bit s.z2) (half_sum w bit s.z0 s.z1)
    ∙ half_sum w bit (s.z0 ⊕ s.z1) s.z2

pub masked_below : (s : Selection) (register bit : ℕ) → Bounded s → masked register s bit < 2 ^ s.width
unfolding masked
masked_below s zero bit k = below _ (half_below _ bit _ k.z0) k.t1
masked_below s (suc zero) bit k = below _ (half_below _ bit _ k.z1) k.t2
masked_below s (suc (suc r)) bit k = below _ (below _ (half_below _ bit _ k.z2) k.t1) k.t2

-- what stands at a place of a pair after both writes
either_place : (place b x y : ℕ) → place < 2 → b < 2 → at (set (set (0 ∷ 0 ∷ []) place x) (1 - place) y) b ≡ cond (eqb place b) x y
unfolding at
either_place zero zero x y h k = refl
either_place zero (suc zero) x y h k = refl
either_place zero (suc (suc b)) x y h k = absurd (omega arith)
either_place (suc zero) zero x y h k = refl
either_place (suc zero) (suc zero) x y h k = refl
either_place (suc zero) (suc (suc b)) x y h k = absurd (omega arith)
either_place (suc (suc p)) b x y h k = absurd (omega arith)

-- what the place and b differ by is c1 ⊕ c2
apart : (s : Selection) → c3 s ⊕ s.b ≡ s.c1 ⊕ s.c2
unfolding c3
apart s = simp xors

-- whatever the width is
pub share_chosen : (s : Selection) (register : ℕ) → s.c0 < 2 → s.c1 < 2 → s.c2 < 2 → s.b < 2
    → share register s ≡ masked register s (s.c0 ⊕ s.c1 ⊕ s.c2)
unfolding share registers
share_chosen s register h0 h1 h2 h =
    either_place (c3 s) s.b _ _ (c3_below s h1 h2 h) h ∙ chosen_by_cases (eqb (c3 s) s.b) refl
  where
    joined : s.c0 ⊕ s.c1 ⊕ s.c2 ≡ s.c0 ⊕ (c3 s ⊕ s.b)
    joined = rw (apart s) (simp xors)

    chosen_by_cases : (same : Bool) → eqb (c3 s) s.b ≡ same
        → cond same (masked register s s.c0) (masked register s (1 - s.c0)) ≡ masked register s (s.c0 ⊕ s.c1 ⊕ s.c2)
    chosen_by_cases true e =
        let none : s.c0 ⊕ (c3 s ⊕ s.b) ≡ s.c0 = rw (eqb-true (c3 s) s.b e) (simp xors) in
        ap (masked register s) (sym (joined ∙ none))
    chosen_by_cases false e =
        let one : c3 s ⊕ s.b ≡ 1 = different_bits (c3 s) s.b (c3_below s h1 h2 h) h (eqb-false (c3 s) s.b e) in
        ap (masked register s) (sym (joined ∙ rw one (other_bit s.c0 h0)))

pub bounded_share : (s : Selection) (register : ℕ) → Bounded s → share register s ≡ masked register s (s.c0 ⊕ s.c1 ⊕ s.c2)
bounded_share s register k = share_chosen s register k.c0 k.c1 k.c2 k.b
