-- The test of fitness says what its definition says in words: each part holds of a fit table, and all parts together make it fit.
use mathlib.Core.Path.{◌≡◌, refl}
use mathlib.Core.Bool.{Bool, true, false, and-eq-true_iff}
use mathlib.Core.List.{List, [], ◌∷◌}
use Prim.Native.Nat.{ℕ, zero, suc, ◌+◌, ◌^◌, ◌≤◌, ◌<◌}
use native.Mathlib.Omega.{arith}
use borrow.Author.Tests.{eqb-true, eq-eqb, leb-true, leb-false, le-leb, not-true}
use lib.Dec.{eqb, leb}
use lib.ListN.{length}
use lib.Pow.{pow_pos}
use Rattle.bits.specs.Xor.{◌⊕◌}
use Rattle.refusals.specs.Tests.{any_from}
use Rattle.table.specs.Balanced.{at, count_of}
use Rattle.table.specs.Fit.{occurs, each_value, equally_often, closed, fit}
use Rattle.table.proofs.Balanced.{at_below}
use Rattle.table.proofs.Often.{count_past}

-- a value occurs in a list
pub record In (v : ℕ) (xs : List ℕ) : Type 0 where
  pub occurs : 1 ≤ count_of v xs

first_in : (x : ℕ) (xs : List ℕ) → In x (x ∷ xs)
unfolding count_of
first_in x xs = record { occurs = rw (eq-eqb x x refl) (omega arith) }

later_in : {v : ℕ} (x : ℕ) {xs : List ℕ} → In v xs → In v (x ∷ xs)
unfolding count_of
later_in {v} x {xs} h = record { occurs = omega (arith, h.occurs) }

in_later : {v x : ℕ} {xs : List ℕ} → eqb x v ≡ false → In v (x ∷ xs) → In v xs
unfolding count_of
in_later {v} {x} {xs} q h =
    let behind : 1 ≤ 0 + count_of v xs = rw q at h.occurs in
    record { occurs = omega arith }

-- each value that occurs passes a test if each entry does
pub value_passes : (xs : List ℕ) (test : ℕ → Bool) → each_value xs test ≡ true → (v : ℕ) → In v xs → test v ≡ true
unfolding each_value count_of
value_passes [] test e v h = absurd (omega (arith, h.occurs))
value_passes (x ∷ xs) test e v h = value_passes_by_cases (eqb x v) refl (value_passes xs test both.1 v)
  where
    both : (test x ≡ true) × (each_value xs test ≡ true)
    both = (and-eq-true_iff (test x) (each_value xs test)).0 e

    value_passes_by_cases : (t : Bool) → eqb x v ≡ t → (In v xs → test v ≡ true) → test v ≡ true
    value_passes_by_cases true q later = rw (← eqb-true x v q) both.0
    value_passes_by_cases false q later = later (in_later q h)

pub values_pass : (xs : List ℕ) (test : ℕ → Bool) → ((v : ℕ) → In v xs → test v ≡ true) → each_value xs test ≡ true
unfolding each_value
values_pass [] test h = refl
values_pass (x ∷ xs) test h =
    (and-eq-true_iff (test x) (each_value xs test)).1 (h x (first_in x xs), values_pass xs test (λ v o. h v (later_in x o)))

-- the entry at each place occurs
pub entry_in : (xs : List ℕ) (i : ℕ) → i < length xs → In (at xs i) xs
unfolding at
entry_in [] i h = absurd (omega arith)
entry_in (x ∷ xs) zero h = first_in x xs
entry_in (x ∷ xs) (suc i) h = later_in x (entry_in xs i (omega arith))

-- and each value that occurs is the entry at some place
pub place_of : (xs : List ℕ) (v : ℕ) → In v xs → (i : ℕ) × (i < length xs) × (at xs i ≡ v)
unfolding at count_of
place_of [] v h = absurd (omega (arith, h.occurs))
place_of (x ∷ xs) v h = place_of_by_cases (eqb x v) refl (place_of xs v)
  where
    place_of_by_cases : (t : Bool) → eqb x v ≡ t → (In v xs → (i : ℕ) × (i < length xs) × (at xs i ≡ v))
        → (i : ℕ) × (i < suc (length xs)) × (at (x ∷ xs) i ≡ v)
    place_of_by_cases true q later = (0, omega arith, eqb-true x v q)
    place_of_by_cases false q later =
        let l = later (in_later q h) in
        (suc l.0, omega (arith, l.1), l.2)

-- a value that occurs is below the limit that no entry reaches
pub value_below : (limit : ℕ) (xs : List ℕ) → any_from limit xs ≡ false → (v : ℕ) → In v xs → v < limit
value_below limit xs none v h = value_below_by_cases (leb limit v) refl
  where
    value_below_by_cases : (t : Bool) → leb limit v ≡ t → v < limit
    value_below_by_cases true e = absurd (omega (arith, h.occurs, count_past limit xs none v (leb-true _ _ e)))
    value_below_by_cases false e = leb-false _ _ e

module _ (n m : ℕ) (xs : List ℕ) (h : fit n m xs ≡ true) where
  pub fit_long : length xs ≡ 2 ^ n
  unfolding fit
  fit_long = eqb-true _ _ (simp and-eq-true_iff at h).0.0.0

  pub fit_none_from : any_from (2 ^ m) xs ≡ false
  unfolding fit
  fit_none_from = not-true _ (simp and-eq-true_iff at h).0.0.1

  pub fit_below : (i : ℕ) → at xs i < 2 ^ m
  fit_below = at_below (2 ^ m) xs (pow_pos m) fit_none_from

  pub fit_equal : (u v : ℕ) → In u xs → In v xs → count_of u xs ≡ count_of v xs
  unfolding fit equally_often
  fit_equal u v k l = eqb-true _ _ (value_passes xs _ (value_passes xs _ (simp and-eq-true_iff at h).0.1 u k) v l)

  pub fit_closed : (u v w : ℕ) → In u xs → In v xs → In w xs → In (u ⊕ v ⊕ w) xs
  unfolding fit closed occurs
  fit_closed u v w k l o =
      record {
        occurs = leb-true _ _ (value_passes xs _ (value_passes xs _ (value_passes xs _ (simp and-eq-true_iff at h).1 u k) v l) w o);
      }

-- and what is asked of it
pub fit_made : (n m : ℕ) (xs : List ℕ) → length xs ≡ 2 ^ n → any_from (2 ^ m) xs ≡ false
    → ((u v : ℕ) → In u xs → In v xs → count_of u xs ≡ count_of v xs)
    → ((u v w : ℕ) → In u xs → In v xs → In w xs → In (u ⊕ v ⊕ w) xs) → fit n m xs ≡ true
unfolding fit equally_often closed occurs
fit_made n m xs long none equal three =
    rw (
      eq-eqb _ _ long,
      none,
      values_pass xs (λ u. each_value xs (λ v. eqb (count_of u xs) (count_of v xs)))
          (λ u h. values_pass xs _ (λ v k. eq-eqb _ _ (equal u v h k))),
    )
    (values_pass xs _ (λ u h. values_pass xs _ (λ v k. values_pass xs _ (λ w l. le-leb _ _ (three u v w h k l).occurs))))
