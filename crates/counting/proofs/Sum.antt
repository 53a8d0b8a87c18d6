-- The laws of finite sums.
use mathlib.Core.Path.{◌≡◌, refl, sym, ap, ap₂, ◌∙◌}
use mathlib.Core.Bool.{cond}
use Prim.Native.Nat.{ℕ, zero, suc, ◌+◌, ◌*◌, ◌≤◌, ◌<◌}
use native.Mathlib.Nat.{le_refl, le_of_suc-le-suc, not-suc-le-zero, add_assoc, add-zero, add-suc, add-mul, mul-zero, zero-mul, zero-add}
use native.Mathlib.Omega.{arith}
use lib.Dec.{eqb, eqb-zero-suc, eqb-suc-zero, eqb-suc-suc}
use Rattle.counting.specs.Sum.{sum}

-- equal terms make equal sums
pub sum_ext : (k : ℕ) {f g : ℕ → ℕ} → ((i : ℕ) → i < k → f i ≡ g i) → sum k f ≡ sum k g
unfolding sum
sum_ext zero h = refl
sum_ext (suc k) h = ap₂ ◌+◌ (sum_ext k (λ i l. h i (omega arith))) (h k (le_refl _))

pub sum_add : (k : ℕ) (f g : ℕ → ℕ) → sum k (λ i. f i + g i) ≡ sum k f + sum k g
unfolding sum
sum_add zero f g = refl
sum_add (suc k) f g = rw (sum_add k f g) (omega arith)

pub sum_const : (k a : ℕ) → sum k (λ _. a) ≡ k * a
unfolding sum
sum_const zero a = omega arith
sum_const (suc k) a = rw (sum_const k a) (omega arith)

-- terms that are no more than a
pub sum_most : (k a : ℕ) {f : ℕ → ℕ} → ((i : ℕ) → f i ≤ a) → sum k f ≤ k * a
unfolding sum
sum_most zero a h = omega arith
sum_most (suc k) a h = omega (arith, sum_most k a h, h k)

-- a common factor
pub sum_times : (k : ℕ) (f : ℕ → ℕ) (a : ℕ) → sum k (λ i. f i * a) ≡ sum k f * a
unfolding sum
sum_times zero f a = sym (zero-mul a)
sum_times (suc k) f a = rw (sum_times k f a) (sym (add-mul (sum k f) (f k) a))

-- the two sums of a double sum change places
pub sum_swap : (j k : ℕ) (f : ℕ → ℕ → ℕ) → sum j (λ a. sum k (λ b. f a b)) ≡ sum k (λ b. sum j (λ a. f a b))
unfolding sum
sum_swap zero k f = sym (sum_const k 0 ∙ mul-zero k)
sum_swap (suc j) k f = rw (sum_swap j k f) (sym (sum_add k (λ b. sum j (λ a. f a b)) (f j)))

-- the first terms, and those behind them
pub sum_append : (j k : ℕ) (f : ℕ → ℕ) → sum (j + k) f ≡ sum j f + sum k (λ i. f (j + i))
unfolding sum
sum_append j zero f = rw (add-zero j) (sym (add-zero (sum j f)))
sum_append j (suc k) f = rw (add-suc j k) (ap (λ s. s + f (j + k)) (sum_append j k f) ∙ add_assoc _ _ _)

-- the terms taken by so many
pub sum_blocks : (k size : ℕ) (f : ℕ → ℕ) → sum (k * size) f ≡ sum k (λ i. sum size (λ r. f (i * size + r)))
unfolding sum
sum_blocks zero size f = rw (zero-mul size)
sum_blocks (suc k) size f =
    let more : suc k * size ≡ k * size + size = omega arith in
    rw more (sum_append (k * size) size f ∙ ap (λ s. s + sum size (λ r. f (k * size + r))) (sum_blocks k size f))

-- by twos
pub sum_pairs : (k : ℕ) (f : ℕ → ℕ) → sum (k * 2) f ≡ sum k (λ i. f (i * 2) + f (i * 2 + 1))
unfolding sum
sum_pairs k f = sum_blocks k 2 f ∙ sum_ext k (λ i _. ap (λ s. s + f (i * 2 + 1)) (zero-add _ ∙ ap f (add-zero _)))

-- the first term apart from the rest
pub sum_first : (k : ℕ) (f : ℕ → ℕ) → sum (suc k) f ≡ f 0 + sum k (λ i. f (suc i))
unfolding sum
sum_first zero f = omega arith
sum_first (suc k) f = rw (sum_first k f) (add_assoc _ _ _)

-- only the term at x counts
pub sum_one : (k x : ℕ) (f : ℕ → ℕ) → x < k → sum k (λ i. cond (eqb x i) 1 0 * f i) ≡ f x
sum_one zero x f h = absurd (not-suc-le-zero h)
sum_one (suc k) zero f h = sum_first k _ ∙ simp (eqb-zero-suc, zero-mul) (omega (arith, sum_const k 0))
sum_one (suc k) (suc x) f h =
    sum_first k _ ∙ simp (eqb-suc-zero, eqb-suc-suc, zero-mul, zero-add) (sum_one k x (λ i. f (suc i)) (le_of_suc-le-suc h))
