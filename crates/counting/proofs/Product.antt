-- The product of a function's first values, and its laws.
use mathlib.Core.Path.{◌≡◌, refl, ap₂, ◌∙◌}
use mathlib.Core.Bool.{cond}
use Prim.Native.Nat.{ℕ, zero, suc, ◌*◌, ◌<◌}
use native.Mathlib.Nat.{not-suc-le-zero, le_of_suc-le-suc, mul-mul-mul_comm, mul-one, one-mul}
use native.Mathlib.Omega.{arith}
use lib.Dec.{eqb, eqb-zero-suc, eqb-suc-zero, eqb-suc-suc}

-- f 0 * f 1 * .. * f (limit - 1)
unfoldable pub product : (limit : ℕ) → (ℕ → ℕ) → ℕ
product zero f = 1
product (suc k) f = f 0 * product k (λ i. f (suc i))

-- equal factors make equal products
pub product_ext : (k : ℕ) {f g : ℕ → ℕ} → ((i : ℕ) → i < k → f i ≡ g i) → product k f ≡ product k g
unfolding product
product_ext zero h = refl
product_ext (suc k) h = ap₂ ◌*◌ (h 0 (omega arith)) (product_ext k (λ i l. h (suc i) (omega arith)))

pub product_times : (k : ℕ) (f g : ℕ → ℕ) → product k (λ i. f i * g i) ≡ product k f * product k g
unfolding product
product_times zero f g = refl
product_times (suc k) f g = rw (product_times k (λ i. f (suc i)) (λ i. g (suc i))) (mul-mul-mul_comm _ _ _ _)

product_ones : (k : ℕ) → product k (λ i. 1) ≡ 1
unfolding product
product_ones zero = refl
product_ones (suc k) = one-mul _ ∙ product_ones k

-- only the factor at x counts
pub product_one : (k x : ℕ) (f : ℕ → ℕ) → x < k → product k (λ i. cond (eqb x i) (f i) 1) ≡ f x
unfolding product
product_one zero x f h = absurd (not-suc-le-zero h)
product_one (suc k) zero f h = simp eqb-zero-suc (rw (product_ones k) (mul-one (f 0)))
product_one (suc k) (suc x) f h =
    simp (eqb-suc-zero, eqb-suc-suc, one-mul) (product_one k x (λ i. f (suc i)) (le_of_suc-le-suc h))
