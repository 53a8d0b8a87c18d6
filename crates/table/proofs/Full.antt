-- Balanced tables are the fit ones in which every value below 2^m occurs.
use mathlib.Core.Path.{◌≡◌, refl, sym, ap, ◌∙◌}
use mathlib.Core.Bool.{Bool, true, false}
use mathlib.Core.List.{List}
use Prim.Native.Nat.{ℕ, ◌+◌, ◌*◌, ◌-◌, ◌/◌, ◌^◌, ◌≤◌, ◌<◌}
use native.Mathlib.Nat.{mul-one, mul-le-mul_left, mul-div_cancel_left}
use native.Mathlib.Omega.{arith}
use borrow.Author.Tests.{leb-true, leb-false}
use lib.Dec.{leb}
use lib.ListN.{length}
use lib.Pow.{pow_pos, pow-lt, pow-add}
use Rattle.bits.specs.Xor.{◌⊕◌}
use Rattle.bits.proofs.Xor.{below}
use Rattle.counting.proofs.Sum.{sum_ext, sum_const}
use Rattle.refusals.specs.Tests.{any_from}
use Rattle.table.specs.Balanced.{count_of, balanced}
use Rattle.table.specs.Fit.{fit}
use Rattle.table.proofs.Balanced.{balanced_long, balanced_none_from, balanced_count, balanced_made}
use Rattle.table.proofs.Fit.{In, value_below, fit_made, fit_long, fit_none_from, fit_below, fit_equal}
use Rattle.table.proofs.Often.{counts_sum}

-- every value below 2^m occurs in a balanced table, so the ⊕ of any three does
pub balanced_fit : (n m : ℕ) (xs : List ℕ) → balanced n m xs ≡ true → fit n m xs ≡ true
balanced_fit n m xs h =
    let none = balanced_none_from n m xs h in
    let small = value_below (2 ^ m) xs none in
    let often = balanced_count n m xs h in
    fit_made n m xs (balanced_long n m xs h) none (λ u v k l. often u (small u k) ∙ sym (often v (small v l)))
    (λ u v w k l o.
    record { occurs = rw (often (u ⊕ v ⊕ w) (below m (below m (small u k) (small v l)) (small w o))) (pow_pos (n - m)) })

-- so many entries for each of 2^m values are 2^n entries, so there are 2^(n - m) for each, and m is at most n
shared_out : (n m times : ℕ) → 1 ≤ times → 2 ^ m * times ≡ 2 ^ n → (m ≤ n) × (times ≡ 2 ^ (n - m))
shared_out n m times some e = shared_out_by_cases (leb m n) refl
  where
    shared_out_by_cases : (t : Bool) → leb m n ≡ t → (m ≤ n) × (times ≡ 2 ^ (n - m))
    shared_out_by_cases true q =
        let narrow = leb-true m n q in
        let split : m + (n - m) ≡ n = omega arith in
        let power : 2 ^ m * times ≡ 2 ^ m * 2 ^ (n - m) = e ∙ sym (ap (λ (k : ℕ). 2 ^ k) split) ∙ pow-add 2 m (n - m) in (
          narrow,
          sym (mul-div_cancel_left times (pow_pos m)) ∙ ap (λ k. k / 2 ^ m) power ∙ mul-div_cancel_left (2 ^ (n - m)) (pow_pos m),
        )
    shared_out_by_cases false q =
        absurd (omega (arith, mul-le-mul_left (2 ^ m) some, mul-one (2 ^ m), pow-lt (leb-false m n q)))

-- where each value below 2^m stands in a table so often, that is the sum of all counts
all_counts : (n m times : ℕ) (xs : List ℕ) → length xs ≡ 2 ^ n → any_from (2 ^ m) xs ≡ false → ((v : ℕ) → v < 2 ^ m → count_of v xs ≡ times)
    → 2 ^ m * times ≡ 2 ^ n
all_counts n m times xs long none equal =
    sym (sum_const (2 ^ m) times) ∙ sum_ext (2 ^ m) (λ v l. sym (equal v l)) ∙ counts_sum (2 ^ m) xs none ∙ long

pub balanced_narrow : (n m : ℕ) (xs : List ℕ) → balanced n m xs ≡ true → m ≤ n
balanced_narrow n m xs h =
    (shared_out n m (2 ^ (n - m)) (pow_pos (n - m))
    (all_counts n m (2 ^ (n - m)) xs (balanced_long n m xs h) (balanced_none_from n m xs h) (balanced_count n m xs h))).0

-- where every value below 2^m occurs, all do so equally often
pub full_balanced : (n m : ℕ) (xs : List ℕ) → fit n m xs ≡ true → ((v : ℕ) → v < 2 ^ m → In v xs) → balanced n m xs ≡ true
full_balanced n m xs h all =
    balanced_made n m xs (fit_long n m xs h) (fit_below n m xs h)
    (λ v l. equal v l ∙ (shared_out n m (count_of 0 xs) (all 0 (pow_pos m)).occurs whole).1)
  where
    equal : (v : ℕ) → v < 2 ^ m → count_of v xs ≡ count_of 0 xs
    equal v l = fit_equal n m xs h v 0 (all v l) (all 0 (pow_pos m))

    whole : 2 ^ m * count_of 0 xs ≡ 2 ^ n
    whole = all_counts n m (count_of 0 xs) xs (fit_long n m xs h) (fit_none_from n m xs h) equal
