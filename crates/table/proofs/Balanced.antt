-- The test of balance says what its definition says in words: each part holds of a balanced table, and all parts together make it balanced.
use mathlib.Core.Path.{◌≡◌, refl, sym, ◌∙◌}
use mathlib.Core.Bool.{Bool, true, false, and-eq-true_iff}
use mathlib.Core.List.{List, [], ◌∷◌}
use mathlib.Core.Logic.{inl, inr}
use Prim.Native.Nat.{ℕ, zero, suc, ◌-◌, ◌^◌, ◌<◌}
use native.Mathlib.Nat.{le_refl, le_of_suc-le-suc, not-suc-le-zero, eq-or-lt_of_le}
use native.Mathlib.Omega.{arith}
use borrow.Author.Tests.{eqb-true, eq-eqb, not-true}
use lib.ListN.{length}
use lib.Pow.{pow_pos}
use Rattle.refusals.specs.Tests.{any_from}
use Rattle.refusals.proofs.Tests
use Rattle.table.specs.Balanced.{at, count_of, all_below, each_often, balanced}

-- all numbers below k pass a test if each does
pub below : (k : ℕ) (test : ℕ → Bool) → all_below k test ≡ true → (i : ℕ) → i < k → test i ≡ true
unfolding all_below
below zero test e i h = absurd (not-suc-le-zero h)
below (suc k) test e i h =
    let both = (and-eq-true_iff (all_below k test) (test k)).0 e in
    elim (eq-or-lt_of_le (le_of_suc-le-suc h)) [ inl p ↦ rw p both.1 | inr l ↦ below k test both.0 i l ]

pub all_pass : (k : ℕ) (test : ℕ → Bool) → ((i : ℕ) → i < k → test i ≡ true) → all_below k test ≡ true
unfolding all_below
all_pass zero test h = refl
all_pass (suc k) test h = (and-eq-true_iff (all_below k test) (test k)).1 (all_pass k test (λ i l. h i (omega arith)), h k (le_refl _))

-- one that fails is enough
pub one_fails : (k : ℕ) (test : ℕ → Bool) (i : ℕ) → i < k → test i ≡ false → all_below k test ≡ false
one_fails k test i h e = one_fails_by_cases (all_below k test) refl
  where
    one_fails_by_cases : (t : Bool) → all_below k test ≡ t → t ≡ false
    one_fails_by_cases true f = sym (below k test f i h) ∙ e
    one_fails_by_cases false f = refl

-- no number of a list is the least or more, so each is less; past the end it is 0
pub at_below : (least : ℕ) (xs : List ℕ) → 0 < least → any_from least xs ≡ false → (i : ℕ) → at xs i < least
unfolding at
at_below least [] p e i = p
at_below least (x ∷ xs) p e zero = (Tests.all_below least x xs e).0
at_below least (x ∷ xs) p e (suc i) = at_below least xs p (Tests.all_below least x xs e).1 i

pub none_from : (least : ℕ) (xs : List ℕ) → ((i : ℕ) → at xs i < least) → any_from least xs ≡ false
unfolding at
none_from least [] h = Tests.none_below least
none_from least (x ∷ xs) h = Tests.one_below least x xs (h 0) (none_from least xs (λ i. h (suc i)))

pub balanced_made : (n m : ℕ) (xs : List ℕ) → length xs ≡ 2 ^ n → ((i : ℕ) → at xs i < 2 ^ m)
    → ((v : ℕ) → v < 2 ^ m → count_of v xs ≡ 2 ^ (n - m)) → balanced n m xs ≡ true
unfolding balanced each_often
balanced_made n m xs long small often =
    rw (eq-eqb _ _ long, none_from (2 ^ m) xs small) (all_pass (2 ^ m) _ (λ v l. eq-eqb _ _ (often v l)))

module _ (n m : ℕ) (xs : List ℕ) (h : balanced n m xs ≡ true) where
  pub balanced_long : length xs ≡ 2 ^ n
  unfolding balanced
  balanced_long = eqb-true _ _ (simp and-eq-true_iff at h).0.0

  pub balanced_none_from : any_from (2 ^ m) xs ≡ false
  unfolding balanced
  balanced_none_from = not-true _ (simp and-eq-true_iff at h).0.1

  pub balanced_below : (i : ℕ) → at xs i < 2 ^ m
  balanced_below = at_below (2 ^ m) xs (pow_pos m) balanced_none_from

  pub balanced_count : (v : ℕ) → v < 2 ^ m → count_of v xs ≡ 2 ^ (n - m)
  unfolding balanced each_often
  balanced_count v l = eqb-true _ _ (below (2 ^ m) _ (simp and-eq-true_iff at h).1 v l)
