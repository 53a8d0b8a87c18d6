-- Where no value stands in a table too often, each stands in it equally often: the counts have one sum.
use mathlib.Core.Path.{◌≡◌, refl, sym, ap, ◌∙◌}
use mathlib.Core.Bool.{false, cond}
use mathlib.Core.List.{List, [], ◌∷◌}
use mathlib.Core.Logic.{inl, inr}
use Prim.Native.Nat.{ℕ, zero, suc, ◌+◌, ◌-◌, ◌*◌, ◌^◌, ◌≤◌, ◌<◌}
use native.Mathlib.Nat.{le_refl, le_of_suc-le-suc, not-suc-le-zero, eq-or-lt_of_le, mul-one}
use native.Mathlib.Omega.{arith}
use borrow.Author.Tests.{ne_eqb}
use lib.Dec.{eqb}
use lib.ListN.{length}
use lib.Pow.{pow-add}
use Rattle.counting.specs.Sum.{sum}
use Rattle.counting.proofs.Sum.{sum_ext, sum_add, sum_const, sum_one}
use Rattle.refusals.specs.Tests.{any_from}
use Rattle.refusals.proofs.Tests
use Rattle.table.specs.Balanced.{count_of}

-- terms within a bound have their greatest sum only if each is the bound
sum_within : (k t : ℕ) (f : ℕ → ℕ) → ((i : ℕ) → i < k → f i ≤ t) → sum k f ≤ k * t
unfolding sum
sum_within zero t f h = omega arith
sum_within (suc k) t f h = omega (arith, sum_within k t f (λ i l. h i (omega arith)), h k (le_refl _))

pub sum_full : (k t : ℕ) (f : ℕ → ℕ) → ((i : ℕ) → i < k → f i ≤ t) → sum k f ≡ k * t → (i : ℕ) → i < k → f i ≡ t
unfolding sum
sum_full zero t f h e i l = absurd (not-suc-le-zero l)
sum_full (suc k) t f h e i l =
    let below = sum_within k t f (λ j m. h j (omega arith)) in
    let rest : sum k f ≡ k * t = omega (arith, below, h k (le_refl _)) in
    elim (eq-or-lt_of_le (le_of_suc-le-suc l))
    [ inl p ↦ rw p (omega (arith, rest)) | inr m ↦ sum_full k t f (λ j q. h j (omega arith)) rest i m ]

-- each entry is counted once, and no value from the limit on is counted
pub counts_sum : (limit : ℕ) (xs : List ℕ) → any_from limit xs ≡ false → sum limit (λ v. count_of v xs) ≡ length xs
unfolding count_of
counts_sum limit [] e = sum_const limit 0 ∙ omega arith
counts_sum limit (x ∷ xs) e =
    let parts = Tests.all_below limit x xs e in
    sum_add limit (λ v. cond (eqb x v) 1 0) (λ v. count_of v xs)
    ∙ omega (
      arith,
      counts_sum limit xs parts.1,
      sum_ext limit (λ v _. sym (mul-one (cond (eqb x v) 1 0))),
      sum_one limit x (λ _. 1) parts.0,
    )

pub count_past : (limit : ℕ) (xs : List ℕ) → any_from limit xs ≡ false → (v : ℕ) → limit ≤ v → count_of v xs ≡ 0
unfolding count_of
count_past limit [] e v h = refl
count_past limit (x ∷ xs) e v h =
    let parts = Tests.all_below limit x xs e in
    rw (ne_eqb x v (λ p. not_less parts.0 (rw p h)), count_past limit xs parts.1 v h)
  where
    not_less : {a b : ℕ} → a < b → b ≤ a → ⊥
    not_less l m = omega arith

-- 2^n entries of 2^m values, none of them more than 2^(n - m) times
pub each_equal : (n m : ℕ) (xs : List ℕ) → m ≤ n → length xs ≡ 2 ^ n → any_from (2 ^ m) xs ≡ false
    → ((v : ℕ) → v < 2 ^ m → count_of v xs ≤ 2 ^ (n - m)) → (v : ℕ) → v < 2 ^ m → count_of v xs ≡ 2 ^ (n - m)
each_equal n m xs h long none most =
    let whole : m + (n - m) ≡ n = omega arith in
    let power : 2 ^ n ≡ 2 ^ m * 2 ^ (n - m) = sym (ap (λ (k : ℕ). 2 ^ k) whole) ∙ pow-add 2 m (n - m) in
    sum_full (2 ^ m) (2 ^ (n - m)) (λ v. count_of v xs) most (counts_sum (2 ^ m) xs none ∙ long ∙ power)
