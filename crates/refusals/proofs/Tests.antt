-- The laws of the tests.
use mathlib.Core.Path.{◌≡◌, refl, sym, ap, ◌∙◌}
use mathlib.Core.Bool.{Bool, true, false, ◌||◌, true≢false, or-true, or_assoc}
use mathlib.Core.List.{List, [], ◌∷◌, ◌++◌, map}
use Prim.Native.Nat.{ℕ, zero, suc, ◌^◌, ◌≤◌, ◌<◌}
use native.Mathlib.Omega.{arith}
use borrow.Author.Tests.{leb-true, leb-false, ltb-false, le-leb, lt-leb, lt-ltb, le-ltb}
use lib.Dec.{leb, ltb}
use lib.ListN.{length, replicate}
use Rattle.std.specs.List.{list_any}
use Rattle.std.proofs.lemmas.List.{map-id}
use Rattle.refusals.specs.Tests.{outside, any_from}

-- neither of two tests
pub neither : (a b : Bool) → (a || b) ≡ false → (a ≡ false) × (b ≡ false)
neither true b e = absurd (true≢false e)
neither false b e = (refl, e)

pub neither_of : {a b : Bool} → a ≡ false → b ≡ false → (a || b) ≡ false
neither_of d e = rw (d, e)

-- a number that is not outside is within
pub inside : (low high value : ℕ) → outside low high value ≡ false → (low ≤ value) × (value ≤ high)
unfolding outside
inside low high value e =
    let both = neither (ltb value low) (ltb high value) e in
    (ltb-false value low both.0, ltb-false high value both.1)

pub not_outside : {low high value : ℕ} → low ≤ value → value ≤ high → outside low high value ≡ false
unfolding outside
not_outside h k = rw (le-ltb _ _ h, le-ltb _ _ k)

pub below_outside : (low high value : ℕ) → value < low → outside low high value ≡ true
unfolding outside
below_outside low high value h = rw (lt-ltb value low h)

pub above_outside : (low high value : ℕ) → high < value → outside low high value ≡ true
unfolding outside
above_outside low high value h = rw (lt-ltb high value h) (or-true (ltb value low))

-- no number is the least or more: the first is less, and so with the rest
pub all_below : (least x : ℕ) (xs : List ℕ) → any_from least (x ∷ xs) ≡ false → (x < least) × (any_from least xs ≡ false)
unfolding any_from
all_below least x xs e =
    let both = neither (leb least x) (any_from least xs) e in
    (leb-false least x both.0, both.1)

pub one_below : (least x : ℕ) (xs : List ℕ) → x < least → any_from least xs ≡ false → any_from least (x ∷ xs) ≡ false
unfolding any_from
one_below least x xs h e = rw (lt-leb least x h) e

pub none_below : (least : ℕ) → any_from least [] ≡ false
unfolding any_from
none_below least = refl

-- the test at each element of a list, whose numbers are looked through
pub any_found : {A : Type 0} (least : ℕ) (value : A → ℕ) (xs : List A) → list_any (λ x. leb least (value x)) xs ≡ any_from least (map value xs)
unfolding any_from
any_found least value [] = refl
any_found least value (x ∷ xs) = ap (λ t. leb least (value x) || t) (any_found least value xs)

-- what a call told of a test, and how the test of its result came out
pub told : {r t b : Bool} → r ≡ t → r ≡ b → t ≡ b
told e f = sym e ∙ f

pub told_from : {r b : Bool} (size n : ℕ) (xs : List ℕ) → size ≡ 2 ^ n → r ≡ any_from size (map (λ x. x) xs) → r ≡ b → any_from (2 ^ n) xs ≡ b
told_from size n xs s e f = rw (s, map-id xs) at (sym e ∙ f)

-- a number that is the least or more, in front or behind
pub some_here : (least x : ℕ) (xs : List ℕ) → least ≤ x → any_from least (x ∷ xs) ≡ true
unfolding any_from
some_here least x xs h = rw (le-leb least x h)

pub some_later : (least x : ℕ) (xs : List ℕ) → any_from least xs ≡ true → any_from least (x ∷ xs) ≡ true
unfolding any_from
some_later least x xs e = rw e (or-true (leb least x))

-- and so is one that is any lesser number or more
pub any_less : (least lesser : ℕ) (xs : List ℕ) → lesser ≤ least → any_from least xs ≡ true → any_from lesser xs ≡ true
unfolding any_from
any_less least lesser [] h e = e
any_less least lesser (x ∷ xs) h e = any_less_by_cases (leb least x) refl e (any_less least lesser xs h)
  where
    any_less_by_cases : (t : Bool) → leb least x ≡ t → (t || any_from least xs) ≡ true
        → (any_from least xs ≡ true → any_from lesser xs ≡ true) → (leb lesser x || any_from lesser xs) ≡ true
    any_less_by_cases true q e f = rw (le-leb lesser x (omega (arith, leb-true least x q)))
    any_less_by_cases false q e f = rw (f e) (or-true (leb lesser x))

-- a list behind a list
pub any_either : (least : ℕ) (xs ys : List ℕ) → any_from least (xs ++ ys) ≡ (any_from least xs || any_from least ys)
unfolding any_from
any_either least [] ys = refl
any_either least (x ∷ xs) ys = ap (λ t. leb least x || t) (any_either least xs ys) ∙ sym (or_assoc (leb least x) _ _)

-- of zeros none is the least or more, and where none is 1 or more all are zeros
pub zeros_none : {least : ℕ} (k : ℕ) → 0 < least → any_from least (replicate k 0) ≡ false
unfolding any_from
zeros_none zero h = refl
zeros_none {least} (suc k) h = rw (lt-leb least 0 h) (zeros_none k h)

pub none_nonzero : (xs : List ℕ) → any_from 1 xs ≡ false → xs ≡ replicate (length xs) 0
none_nonzero [] e = refl
none_nonzero (x ∷ xs) e =
    let below = all_below 1 x xs e in
    let here : x ≡ 0 = omega (arith, below.0) in
    rw here (ap (λ ys. 0 ∷ ys) (none_nonzero xs below.1))
