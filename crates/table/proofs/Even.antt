-- A table of the right size is even just if it is fit: a sum over its places is a sum over the values, each as often as it stands in the
-- table, and a period of the counts only puts the values in another order.
use mathlib.Core.Path.{◌≡◌, refl, sym, ap, ◌∙◌}
use mathlib.Core.Bool.{Bool, true, false, cond}
use mathlib.Core.List.{List, [], ◌∷◌}
use Prim.Native.Nat.{ℕ, ◌+◌, ◌*◌, ◌^◌, ◌<◌}
use native.Mathlib.Nat.{add-mul, zero-mul, mul-zero}
use borrow.Author.Tests.{eqb-true, eqb-false, eq-eqb, ne_eqb}
use lib.Dec.{eqb}
use lib.ListN.{length}
use Rattle.bits.specs.Xor.{◌⊕◌}
use Rattle.bits.proofs.Xor.{below, xors}
use Rattle.counting.specs.Sum.{sum}
use Rattle.counting.proofs.Sum.{sum_ext, sum_add, sum_const, sum_first, sum_one}
use Rattle.counting.proofs.Shift.{shift}
use Rattle.refusals.specs.Tests.{any_from}
use Rattle.refusals.proofs.Tests.{all_below}
use Rattle.table.specs.Balanced.{at, count_of}
use Rattle.table.specs.Fit.{fit}
use Rattle.table.specs.Even.{Even}
use Rattle.table.proofs.Fit.{In, entry_in, place_of, fit_long, fit_none_from, fit_below}
use Rattle.table.proofs.Periods.{Period, fit_period, periods_fit}

pub by_value : (k : ℕ) (g : ℕ → ℕ) (xs : List ℕ) → any_from k xs ≡ false
    → sum (length xs) (λ z. g (at xs z)) ≡ sum k (λ v. count_of v xs * g v)
unfolding at count_of sum
by_value k g [] h = sym (simp zero-mul (sum_const k 0 ∙ mul-zero k))
by_value k g (x ∷ xs) h =
    let small = all_below k x xs h in
    sum_first (length xs) _ ∙ rw (by_value k g xs small.1, ← (sum_one k x g small.0)) (simp add-mul (sym (sum_add k _ _)))

module _ (n m : ℕ) (xs : List ℕ) (h : fit n m xs ≡ true) where
  fit_sum : (g : ℕ → ℕ) → sum (2 ^ n) (λ z. g (at xs z)) ≡ sum (2 ^ m) (λ v. count_of v xs * g v)
  fit_sum g = rw (← (fit_long n m xs h)) (by_value (2 ^ m) g xs (fit_none_from n m xs h))

  -- each value is shifted to another, which stands in the table equally often
  pub fit_even : Even n (at xs)
  fit_even = record {
    even = λ g x y hx hy.
        let d = at xs x ⊕ at xs y in
        let entry : (z : ℕ) → z < 2 ^ n → In (at xs z) xs = λ z l. entry_in xs z (rw (fit_long n m xs h) l) in
        let same = (fit_period n m xs h (at xs x) (at xs y) (entry x hx) (entry y hy)).same in
        fit_sum (λ v. g (v ⊕ d))
        ∙ sum_ext (2 ^ m) (λ v _. ap (λ c. c * g (v ⊕ d)) (sym (same v)))
        ∙ shift m (λ v. count_of v xs * g v) (below m (fit_below n m xs h x) (fit_below n m xs h y))
        ∙ sym (fit_sum g);
  }

-- how often a value stands in a table is a sum over its places
pub count_sum : (v : ℕ) (xs : List ℕ) → sum (length xs) (λ z. cond (eqb (at xs z) v) 1 0) ≡ count_of v xs
unfolding at count_of sum
count_sum v [] = refl
count_sum v (x ∷ xs) = sum_first (length xs) _ ∙ ap (λ k. cond (eqb x v) 1 0 + k) (count_sum v xs)

-- a shifted entry is v just if the entry is v shifted
pub eqb_shifted : (a d v : ℕ) → eqb (a ⊕ d) v ≡ eqb a (v ⊕ d)
eqb_shifted a d v = eqb_shifted_by_cases (eqb (a ⊕ d) v) refl
  where
    eqb_shifted_by_cases : (t : Bool) → eqb (a ⊕ d) v ≡ t → t ≡ eqb a (v ⊕ d)
    eqb_shifted_by_cases true e = sym (eq-eqb a (v ⊕ d) (sym (rw (← eqb-true (a ⊕ d) v e) (simp xors))))
    eqb_shifted_by_cases false e = sym (ne_eqb a (v ⊕ d) (λ p. eqb-false (a ⊕ d) v e (rw p (simp xors))))

-- where shifting by differences changes no sum, it changes no count
pub even_fit : (n m : ℕ) (xs : List ℕ) → length xs ≡ 2 ^ n → any_from (2 ^ m) xs ≡ false → Even n (at xs) → fit n m xs ≡ true
even_fit n m xs long none e = periods_fit n m xs long none periods
  where
    counted : (v : ℕ) → sum (2 ^ n) (λ z. cond (eqb (at xs z) v) 1 0) ≡ count_of v xs
    counted v = rw (← long) (count_sum v xs)

    placed : (x y : ℕ) → x < length xs → y < length xs → Period xs (at xs x ⊕ at xs y)
    placed x y hx hy = record {
      same = λ v.
          let d = at xs x ⊕ at xs y in
          sym (counted (v ⊕ d))
          ∙ sum_ext (2 ^ n) (λ z _. ap (λ t. cond t 1 0) (sym (eqb_shifted (at xs z) d v)))
          ∙ e.even (λ a. cond (eqb a v) 1 0) x y (rw long at hx) (rw long at hy)
          ∙ counted v;
    }

    periods : (u w : ℕ) → In u xs → In w xs → Period xs (u ⊕ w)
    periods u w k l =
        let i = place_of xs u k in
        let j = place_of xs w l in
        rw (← i.2, ← j.2) (placed i.0 j.0 i.1 j.1)
