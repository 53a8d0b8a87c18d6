-- What a twice masked entry and the answer show together: they differ by the difference of an entry and the one that is looked up. So where
-- they tell nothing, the table is fit.
use mathlib.Core.Path.{◌≡◌, refl, sym, ap, ◌∙◌}
use mathlib.Core.Bool.{Bool, true, false, cond, ◌&&◌}
use mathlib.Core.List.{List, [], ◌∷◌}
use Prim.Native.Nat.{ℕ, ◌*◌, ◌^◌, ◌<◌}
use native.Mathlib.Nat.{mul_comm, mul_assoc, mul_left_comm, one-mul, zero-mul}
use borrow.Author.Tests.{eqb-true, eqb-false, eq-eqb, ne_eqb}
use lib.Dec.{eqb}
use lib.ListN.{length}
use Rattle.bits.specs.Xor.{◌⊕◌}
use Rattle.bits.proofs.Xor.{below, comm, self, zero_l, xors}
use Rattle.counting.specs.Sum.{sum}
use Rattle.counting.specs.Choice.{over}
use Rattle.counting.proofs.Sum.{sum_ext, sum_const, sum_times, sum_one}
use Rattle.counting.proofs.Shift.{shift}
use Rattle.table.specs.Balanced.{at, count_of}
use Rattle.table.proofs.Even.{count_sum, eqb_shifted}

-- 1 where both tests hold
unfoldable pub both : Bool → Bool → ℕ
both s t = cond (s && t) 1 0

both_second : (s : Bool) → both s true ≡ cond s 1 0
unfolding both
both_second true = refl
both_second false = refl

both_none : (s : Bool) → both s false ≡ 0
unfolding both
both_none true = refl
both_none false = refl

-- the one s2 that shows a value as 0
undone : {a s : ℕ} → a ⊕ s ≡ 0 → a ≡ s
undone {a} {s} e =
    let back : a ≡ a ⊕ s ⊕ s = sym (simp xors) in
    back ∙ rw e (zero_l s)

-- the entry stands at base ⊕ r1 ⊕ r2; r3 has the width v, b the width w
module _ (n m v w base x u : ℕ) (table : List ℕ) where
  -- the entry that is looked up, and whether another differs from it by u
  abbrev found : ℕ
  found = at table x

  differs : ℕ → ℕ
  differs z = cond (eqb (at table z ⊕ found) u) 1 0

  -- the two values beside each other, by the place of the one entry and by the output masks
  unfoldable pub shown_both : (z s1 s2 : ℕ) → ℕ
  shown_both z s1 s2 = both (eqb (at table z ⊕ s1 ⊕ s2) u) (eqb (found ⊕ s1 ⊕ s2) 0)

  one_mask : (z s1 s2 : ℕ) → shown_both z s1 s2 ≡ cond (eqb (found ⊕ s1) s2) 1 0 * cond (eqb (at table z ⊕ s1 ⊕ s2) u) 1 0
  unfolding shown_both
  one_mask z s1 s2 = one_mask_by_cases (eqb (found ⊕ s1) s2) refl
    where
      other : Bool
      other = eqb (at table z ⊕ s1 ⊕ s2) u

      one_mask_by_cases : (t : Bool) → eqb (found ⊕ s1) s2 ≡ t
          → both (eqb (at table z ⊕ s1 ⊕ s2) u) (eqb (found ⊕ s1 ⊕ s2) 0) ≡ cond t 1 0 * cond (eqb (at table z ⊕ s1 ⊕ s2) u) 1 0
      one_mask_by_cases true e =
          let zero : found ⊕ s1 ⊕ s2 ≡ 0 = rw (eqb-true (found ⊕ s1) s2 e) (self s2) in
          rw (eq-eqb (found ⊕ s1 ⊕ s2) 0 zero) (both_second _ ∙ sym (one-mul _))
      one_mask_by_cases false e =
          rw (ne_eqb (found ⊕ s1 ⊕ s2) 0 (λ p. eqb-false (found ⊕ s1) s2 e (undone p))) (both_none _ ∙ sym (zero-mul _))

  module _ (small : (z : ℕ) → at table z < 2 ^ m) (based : base < 2 ^ n) (long : length table ≡ 2 ^ n) where
    abbrev rest : ℕ
    rest = 2 ^ v * (2 ^ m * 2 ^ w)

    -- over all b and s2, with what that leaves of the other value
    over_mask : (z s1 : ℕ) → s1 < 2 ^ m → sum (2 ^ m) (λ s2. sum (2 ^ w) (λ _. shown_both z s1 s2)) ≡ differs z * 2 ^ w
    unfolding differs
    over_mask z s1 h =
        let apart : at table z ⊕ s1 ⊕ (found ⊕ s1) ≡ at table z ⊕ found = simp xors in
        sum_ext (2 ^ m)
        (λ s2 _.
        sum_const (2 ^ w) (shown_both z s1 s2) ∙ mul_comm _ _ ∙ ap (λ k. k * 2 ^ w) (one_mask z s1 s2) ∙ mul_assoc _ _ _)
        ∙ sum_one (2 ^ m) (found ⊕ s1) (λ s2. cond (eqb (at table z ⊕ s1 ⊕ s2) u) 1 0 * 2 ^ w) (below m (small x) h)
        ∙ rw apart

    -- over s1 and r3 besides
    over_lookup : (z : ℕ) → sum (2 ^ v) (λ r3. sum (2 ^ m) (λ s1. sum (2 ^ m) (λ s2. sum (2 ^ w) (λ _. shown_both z s1 s2)))) ≡ differs z * rest
    over_lookup z =
        sum_const (2 ^ v) _
        ∙ ap (λ k. 2 ^ v * k) (sum_ext (2 ^ m) (λ s1 h. over_mask z s1 h) ∙ sum_const (2 ^ m) _ ∙ mul_left_comm (2 ^ m) (differs z) (2 ^ w))
        ∙ mul_left_comm (2 ^ v) (differs z) (2 ^ m * 2 ^ w)

    -- every place is looked at equally often
    over_places : (r1 : ℕ) → r1 < 2 ^ n → sum (2 ^ n) (λ r2. differs (base ⊕ r1 ⊕ r2) * rest) ≡ count_of (u ⊕ found) table * rest
    unfolding differs
    over_places r1 h =
        sum_ext (2 ^ n) (λ r2 _. ap (λ z. differs z * rest) (comm (base ⊕ r1) r2))
        ∙ shift n (λ z. differs z * rest) (below n based h)
        ∙ sum_times (2 ^ n) differs rest
        ∙ ap (λ k. k * rest) counted
      where
        counted : sum (2 ^ n) differs ≡ count_of (u ⊕ found) table
        counted = sum_ext (2 ^ n) (λ z _. ap (λ t. cond t 1 0) (eqb_shifted (at table z) found u)) ∙ rw (← long) (count_sum (u ⊕ found) table)

    pub counted_both : over (n ∷ n ∷ v ∷ m ∷ m ∷ w ∷ []) (λ c. shown_both (base ⊕ c 0 ⊕ c 1) (c 3) (c 4))
        ≡ 2 ^ n * (count_of (u ⊕ found) table * rest)
    unfolding over
    counted_both =
        sum_ext (2 ^ n) (λ r1 h. sum_ext (2 ^ n) (λ r2 _. over_lookup (base ⊕ r1 ⊕ r2)) ∙ over_places r1 h) ∙ sum_const (2 ^ n) _
