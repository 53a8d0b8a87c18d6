-- The counts of a table's values decide whether it is fit: each difference from the first entry is a period of them just if the table is.
use mathlib.Core.Path.{◌≡◌, refl, sym, ◌∙◌}
use mathlib.Core.Bool.{Bool, true, false, ◌||◌}
use mathlib.Core.List.{List}
use Prim.Native.Nat.{ℕ, ◌-◌, ◌^◌, ◌≤◌, ◌<◌}
use native.Mathlib.Nat.{le_trans}
use native.Mathlib.Omega.{arith}
use borrow.Author.Tests.{eqb-false, eq-eqb, ne_eqb, leb-true, leb-false}
use lib.Dec.{eqb, leb}
use lib.ListN.{get_or}
use lib.Pow.{pow_mono, pow_pos}
use Rattle.bits.specs.Xor.{◌⊕◌}
use Rattle.bits.proofs.Xor.{below, xors, cancel}
use Rattle.table.specs.Balanced.{at, count_of}
use Rattle.table.specs.Fit.{fit}
use Rattle.table.specs.Counts.{Counted, JoinedCounts, period, all_periods}
use Rattle.table.proofs.Balanced.{below as each_below, all_pass, at_below, balanced_made}
use Rattle.table.proofs.Fit.{In, entry_in, value_below}
use Rattle.table.proofs.Periods.{Period, period_both, fit_period, periods_fit}
use Rattle.table.proofs.Differences.{period_same}
use Rattle.table.proofs.Often.{count_past, each_equal}
use Rattle.table.proofs.Full.{balanced_fit}

-- two tests that follow from each other are the same
both_ways : (s t : Bool) → (s ≡ true → t ≡ true) → (t ≡ true → s ≡ true) → s ≡ t
both_ways true t f g = sym (f refl)
both_ways false true f g = g refl
both_ways false false f g = refl

module _ (n m : ℕ) (xs counts : List ℕ) (c : Counted n m xs counts) where
  abbrev first : ℕ
  first = at xs 0

  small : (v : ℕ) → v < 2 ^ m → v < 256
  small v l = le_trans l (pow_mono c.output_most)

  first_small : first < 2 ^ m
  first_small = at_below (2 ^ m) xs (pow_pos m) c.small 0

  first_in : In first xs
  first_in = entry_in xs 0 (rw c.long (pow_pos n))

  -- what the code asks of the first entry
  pub first_below : get_or xs 0 0 < 2 ^ m
  unfolding at
  first_below = first_small

  counted : (v : ℕ) → v < 2 ^ m → at counts v ≡ count_of v xs
  counted v l = c.counted v (small v l)

  -- a period of the counts of the values below 2^m is one of all values: no other occurs
  whole_period : (d : ℕ) → d < 2 ^ m → period (2 ^ m) counts d ≡ true → Period xs d
  whole_period d l p = record { same = λ v. same_by_cases v (leb (2 ^ m) v) refl }
    where
      none : (v : ℕ) → 2 ^ m ≤ v → count_of v xs ≡ 0
      none = count_past (2 ^ m) xs c.small

      shifted_large : (v : ℕ) → 2 ^ m ≤ v → (t : Bool) → leb (2 ^ m) (v ⊕ d) ≡ t → 2 ^ m ≤ v ⊕ d
      shifted_large v h true e = leb-true _ _ e
      shifted_large v h false e =
          let back : v < 2 ^ m = simp xors at (below m (leb-false _ _ e) l) in
          absurd (omega arith)

      same_by_cases : (v : ℕ) (t : Bool) → leb (2 ^ m) v ≡ t → count_of (v ⊕ d) xs ≡ count_of v xs
      same_by_cases v true e = none (v ⊕ d) (shifted_large v (leb-true _ _ e) _ refl) ∙ sym (none v (leb-true _ _ e))
      same_by_cases v false e =
          let low : v < 2 ^ m = leb-false _ _ e in
          sym (counted (v ⊕ d) (below m low l)) ∙ period_same counts d (2 ^ m) p v low ∙ counted v low

  -- a value that occurs differs from the first entry by a period
  from_first : all_periods (2 ^ m) counts first ≡ true → (u : ℕ) → In u xs → Period xs (first ⊕ u)
  unfolding all_periods
  from_first e u o =
      let u_small = value_below (2 ^ m) xs c.small u o in
      let d_small = below m first_small u_small in
      whole_period (first ⊕ u) d_small (passed (each_below (2 ^ m) _ e (first ⊕ u) d_small))
    where
      nonzero : at counts (first ⊕ (first ⊕ u)) ≡ 0 → ⊥
      nonzero z =
          let absent : count_of u xs ≡ 0 = sym (counted u (value_below (2 ^ m) xs c.small u o)) ∙ (rw cancel at z) in
          omega (arith, o.occurs)

      passed : (eqb (at counts (first ⊕ (first ⊕ u))) 0 || period (2 ^ m) counts (first ⊕ u)) ≡ true → period (2 ^ m) counts (first ⊕ u) ≡ true
      passed t = rw (ne_eqb _ _ nonzero) at t

  periods_enough : all_periods (2 ^ m) counts first ≡ true → fit n m xs ≡ true
  periods_enough e = periods_fit n m xs c.long c.small (λ u w k l. simp xors at (period_both (from_first e u k) (from_first e w l)))

  periods_needed : fit n m xs ≡ true → all_periods (2 ^ m) counts first ≡ true
  unfolding all_periods period
  periods_needed h = all_pass (2 ^ m) _ (λ d l. passes d l (eqb (at counts (first ⊕ d)) 0) refl)
    where
      passes : (d : ℕ) → d < 2 ^ m → (t : Bool) → eqb (at counts (first ⊕ d)) 0 ≡ t → (t || period (2 ^ m) counts d) ≡ true
      passes d l true q = refl
      passes d l false q =
          let inside = below m first_small l in
          let o : In (first ⊕ d) xs = record { occurs = omega (arith, counted (first ⊕ d) inside, eqb-false (at counts (first ⊕ d)) 0 q) } in
          let same = (fit_period n m xs h first (first ⊕ d) first_in o).same in
          all_pass (2 ^ m) _
          (λ v w. eq-eqb _ _ (counted (v ⊕ d) (below m w l) ∙ (rw cancel at (same v)) ∙ sym (counted v w)))

  pub by_periods : (r : Bool) → r ≡ all_periods (2 ^ m) counts (get_or xs 0 0) → r ≡ fit n m xs
  unfolding at
  by_periods r e = e ∙ both_ways _ _ periods_enough periods_needed

  -- where no value stands in the table more than 2^(n - m) times, it is balanced
  pub by_counts : (often times : ℕ) → JoinedCounts counts often → m ≤ n → often ≤ times → times ≡ 2 ^ (n - m) → true ≡ fit n m xs
  by_counts often times j h e f =
      sym
      (balanced_fit n m xs
      (balanced_made n m xs c.long (at_below (2 ^ m) xs (pow_pos m) c.small)
      (each_equal n m xs h c.long c.small
      (λ v l. rw (← counted v l) (le_trans (j.above v (small v l)) (rw f at e))))))
