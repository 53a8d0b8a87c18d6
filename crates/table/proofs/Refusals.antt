-- The table's checks, as code goes through them, and what an accepted table is known to be.
use mathlib.Core.Path.{◌≡◌, refl, sym}
use mathlib.Core.Bool.{Bool, true, false, not}
use mathlib.Core.List.{List, [], ◌∷◌}
use Prim.Native.Nat.{ℕ, ◌^◌, ◌≤◌, ◌<◌}
use native.Mathlib.Omega.{arith}
use borrow.Author.Tests.{eq-eqb, ne_eqb, eqb-true, not-false}
use lib.ListN.{length}
use lib.Pow.{pow_pos}
use Rattle.refusals.specs.Checks.{◌when◌, first_of}
use Rattle.refusals.specs.Tests.{outside, any_from}
use Rattle.refusals.proofs.Checks.{stops, goes, none_applies, passed, passed_other, numbered}
use Rattle.refusals.proofs.Tests.{inside, not_outside}
use Rattle.table.specs.Balanced.{at}
use Rattle.table.specs.Fit.{fit}
use Rattle.table.specs.Refusals.{table_checks, table_refusal}
use Rattle.table.proofs.Balanced.{at_below, none_from}

-- what is known of an accepted table
pub record Table (n m : ℕ) (xs : List ℕ) : Type 0 where
  pub input_least : 1 ≤ n
  pub input_most : n ≤ 8
  pub output_least : 1 ≤ m
  pub output_most : m ≤ 8
  pub long : length xs ≡ 2 ^ n
  pub small : (i : ℕ) → at xs i < 2 ^ m
  pub fitness : fit n m xs ≡ true

last_applies : (b : Bool) → first_of (7 when (not b) ∷ []) ≡ 7 → b ≡ false
unfolding first_of
last_applies true e = absurd (omega arith)
last_applies false e = refl

module _ (n m : ℕ) (xs : List ℕ) where
  -- the first check that applies gives its number
  pub at_3 : outside 1 8 n ≡ true → 3 ≡ table_refusal n m xs
  unfolding table_refusal table_checks
  at_3 t = stops 3 _ t

  pub at_4 : outside 1 8 n ≡ false → outside 1 8 m ≡ true → 4 ≡ table_refusal n m xs
  unfolding table_refusal table_checks
  at_4 p t = goes 3 _ p (stops 4 _ t)

  pub at_5 : outside 1 8 n ≡ false → outside 1 8 m ≡ false → (length xs ≡ 2 ^ n → ⊥) → 5 ≡ table_refusal n m xs
  unfolding table_refusal table_checks
  at_5 p q t = goes 3 _ p (goes 4 _ q (stops 5 _ (rw (ne_eqb _ _ t))))

  after_5 : {r : ℕ} → outside 1 8 n ≡ false → outside 1 8 m ≡ false → length xs ≡ 2 ^ n
      → r ≡ first_of (6 when (any_from (2 ^ m) xs) ∷ 7 when (not (fit n m xs)) ∷ []) → r ≡ table_refusal n m xs
  unfolding table_refusal table_checks
  after_5 p q e h = goes 3 _ p (goes 4 _ q (goes 5 _ (rw (eq-eqb _ _ e)) h))

  pub at_6 : outside 1 8 n ≡ false → outside 1 8 m ≡ false → length xs ≡ 2 ^ n → any_from (2 ^ m) xs ≡ true → 6 ≡ table_refusal n m xs
  at_6 p q e t = after_5 p q e (stops 6 _ t)

  pub at_7 : outside 1 8 n ≡ false → outside 1 8 m ≡ false → length xs ≡ 2 ^ n → any_from (2 ^ m) xs ≡ false → fit n m xs ≡ false
      → 7 ≡ table_refusal n m xs
  at_7 p q e f t = after_5 p q e (goes 6 _ f (stops 7 _ (rw t)))

  pub at_end : outside 1 8 n ≡ false → outside 1 8 m ≡ false → length xs ≡ 2 ^ n → any_from (2 ^ m) xs ≡ false → fit n m xs ≡ true
      → 0 ≡ table_refusal n m xs
  at_end p q e f t = after_5 p q e (goes 6 _ f (goes 7 _ (rw t) none_applies))

  -- so other checks may follow these (`passed_both`)
  pub table_numbered : numbered (table_checks n m xs) ≡ true
  unfolding numbered table_checks
  table_numbered = refl

  pub table_accepted : table_refusal n m xs ≡ 0 → Table n m xs
  unfolding table_refusal table_checks
  table_accepted e =
      let p = passed _ 2 _ e in
      let q = passed _ 3 _ p.1 in
      let s = passed _ 4 _ q.1 in
      let t = passed _ 5 _ s.1 in
      let u = passed _ 6 _ t.1 in
      let v = inside 1 8 n p.0 in
      let w = inside 1 8 m q.0 in
      record {
        input_least = v.0;
        input_most = v.1;
        output_least = w.0;
        output_most = w.1;
        long = eqb-true _ _ (not-false _ s.0);
        small = at_below (2 ^ m) xs (pow_pos m) t.0;
        fitness = not-false _ u.0;
      }

  -- a table that is refused with 7 has passed the other checks
  pub table_unfit : table_refusal n m xs ≡ 7 → (m ≤ 8) × (length xs ≡ 2 ^ n) × (any_from (2 ^ m) xs ≡ false) × (fit n m xs ≡ false)
  unfolding table_refusal table_checks
  table_unfit e =
      let p = passed_other _ 3 7 _ (λ z. omega arith) e in
      let q = passed_other _ 4 7 _ (λ z. omega arith) p.1 in
      let s = passed_other _ 5 7 _ (λ z. omega arith) q.1 in
      let t = passed_other _ 6 7 _ (λ z. omega arith) s.1 in
      ((inside 1 8 m q.0).1, eqb-true _ _ (not-false _ s.0), t.0, last_applies (fit n m xs) t.1)

  pub table_not_refused : Table n m xs → table_refusal n m xs ≡ 0
  table_not_refused t =
      sym
      (at_end (not_outside t.input_least t.input_most) (not_outside t.output_least t.output_most) t.long
      (none_from (2 ^ m) xs t.small)
      t.fitness)
