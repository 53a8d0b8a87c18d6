-- The laws of what belongs to the numbers below a limit.
use mathlib.Core.Path.{◌≡◌, refl, sym, ap, ap₂, ◌∙◌}
use mathlib.Core.List.{List, [], ◌++◌, map, map-append, append_assoc, append-nil}
use Prim.Native.Nat.{ℕ, zero, suc, ◌+◌, ◌*◌, ◌≤◌, ◌<◌}
use native.Mathlib.Nat.{add-zero}
use native.Mathlib.Omega.{arith}
use lib.ListN.{length, length-append}
use Rattle.buffers.proofs.Blocks.{blocks}
use Rattle.log_page.specs.Page.{rising}

pub rising_blocks : (part : ℕ → List ℕ) (k : ℕ) → rising k part ≡ blocks part k
unfolding rising blocks
rising_blocks part zero = refl
rising_blocks part (suc k) = ap (λ l. l ++ part k) (rising_blocks part k)

-- one more
pub rising_more : {A : Type 0} (part : ℕ → List A) (k : ℕ) → rising (suc k) part ≡ rising k part ++ part k
unfolding rising
rising_more part k = refl

-- put together from the front
rising_front : (part : ℕ → List ℕ) (k : ℕ) → rising (suc k) part ≡ part 0 ++ rising k (λ i. part (suc i))
unfolding rising
rising_front part zero = sym (append-nil (part 0))
rising_front part (suc k) = ap (λ l. l ++ part (suc k)) (rising_front part k) ∙ append_assoc (part 0) _ _

-- numbers to which nothing belongs add nothing
pub rising_past : {A : Type 0} (limit : ℕ) (part : ℕ → List A) → ((k : ℕ) → limit ≤ k → part k ≡ []) → (k : ℕ)
    → rising (limit + k) part ≡ rising limit part
unfolding rising
rising_past limit part none zero = ap (λ n. rising n part) (add-zero limit)
rising_past limit part none (suc k) =
    let next : limit + suc k ≡ suc (limit + k) = omega arith in
    rw (next, none (limit + k) (omega arith)) (append-nil (rising (limit + k) part) ∙ rising_past limit part none k)

-- how long it is at most, and where nothing belongs to 0
pub rising_most : (size : ℕ) (part : ℕ → List ℕ) → ((k : ℕ) → length (part k) ≤ size) → (k : ℕ) → length (rising k part) ≤ k * size
unfolding rising
rising_most size part h zero = omega arith
rising_most size part h (suc k) =
    let more : suc k * size ≡ k * size + size = omega arith in
    omega (arith, length-append (rising k part) (part k), rising_most size part h k, h k)

pub rising_most_but_0 : (size : ℕ) (part : ℕ → List ℕ) → ((k : ℕ) → length (part k) ≤ size) → part 0 ≡ [] → (k : ℕ)
    → length (rising (suc k) part) ≤ k * size
rising_most_but_0 size part h none k =
    rw (rising_front part k, none) (rising_most size (λ i. part (suc i)) (λ i. h (suc i)) k)

-- a function of all, and parts that agree
pub rising_map : {A B : Type 0} (f : A → B) (part : ℕ → List A) (k : ℕ) → map f (rising k part) ≡ rising k (λ i. map f (part i))
unfolding rising
rising_map f part zero = refl
rising_map f part (suc k) = map-append f (rising k part) (part k) ∙ ap (λ l. l ++ map f (part k)) (rising_map f part k)

pub rising_same : {A : Type 0} (part other : ℕ → List A) (k : ℕ) → ((i : ℕ) → i < k → part i ≡ other i) → rising k part ≡ rising k other
unfolding rising
rising_same part other zero h = refl
rising_same part other (suc k) h = ap₂ ◌++◌ (rising_same part other k (λ i l. h i (omega arith))) (h k (omega arith))
