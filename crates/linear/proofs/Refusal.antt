-- The layer's checks, as the code goes through them, and what an accepted layer knows.
use mathlib.Core.Path.{◌≡◌, sym, ◌∙◌}
use mathlib.Core.Bool.{Bool, true, false, ◌||◌}
use mathlib.Core.List.{List, [], ◌∷◌}
use Prim.Native.Nat.{ℕ, ◌^◌, ◌≤◌, ◌<◌}
use native.Mathlib.Nat.{le_trans}
use native.Mathlib.Omega.{arith}
use borrow.Author.Tests.{le-leb, lt-leb, leb-false, eq-eqb, ne_eqb, eqb-true, not-false}
use lib.Dec.{leb}
use lib.ListN.{length}
use Rattle.refusals.specs.Checks.{◌when◌, first_of}
use Rattle.refusals.specs.Tests.{outside, any_from}
use Rattle.refusals.proofs.Checks.{stops, goes, none_applies, passed}
use Rattle.refusals.proofs.Tests.{inside, not_outside, neither}
use Rattle.linear.specs.Layer.{layer_refusal}

module _ (n m : ℕ) (rows : List ℕ) (k a b c : ℕ) where
  pub at_3 : outside 1 8 n ≡ true → 3 ≡ layer_refusal n m rows k a b c
  unfolding layer_refusal
  at_3 t = stops 3 _ t

  pub at_4 : outside 1 8 n ≡ false → outside 1 n m ≡ true → 4 ≡ layer_refusal n m rows k a b c
  unfolding layer_refusal
  at_4 p t = goes 3 _ p (stops 4 _ t)

  pub at_8 : outside 1 8 n ≡ false → outside 1 n m ≡ false → (length rows ≡ m → ⊥) → 8 ≡ layer_refusal n m rows k a b c
  unfolding layer_refusal
  at_8 p q t = goes 3 _ p (goes 4 _ q (stops 8 _ (rw (ne_eqb _ _ t))))

  after_8 : {r : ℕ} → outside 1 8 n ≡ false → outside 1 n m ≡ false → length rows ≡ m
      → r ≡ first_of (9 when (any_from (2 ^ n) rows || leb (2 ^ m) k) ∷ 10 when (any_from (2 ^ n) (a ∷ b ∷ c ∷ [])) ∷ [])
      → r ≡ layer_refusal n m rows k a b c
  unfolding layer_refusal
  after_8 p q e h = goes 3 _ p (goes 4 _ q (goes 8 _ (rw (eq-eqb _ _ e)) h))

  pub at_9_row : outside 1 8 n ≡ false → outside 1 n m ≡ false → length rows ≡ m → any_from (2 ^ n) rows ≡ true
      → 9 ≡ layer_refusal n m rows k a b c
  at_9_row p q e t = after_8 p q e (stops 9 _ (rw t))

  pub at_9_constant : outside 1 8 n ≡ false → outside 1 n m ≡ false → length rows ≡ m → any_from (2 ^ n) rows ≡ false → 2 ^ m ≤ k
      → 9 ≡ layer_refusal n m rows k a b c
  at_9_constant p q e f t = after_8 p q e (stops 9 _ (rw (f, le-leb _ _ t)))

  pub at_10 : outside 1 8 n ≡ false → outside 1 n m ≡ false → length rows ≡ m → any_from (2 ^ n) rows ≡ false → k < 2 ^ m
      → any_from (2 ^ n) (a ∷ b ∷ c ∷ []) ≡ true → 10 ≡ layer_refusal n m rows k a b c
  at_10 p q e f l t = after_8 p q e (goes 9 _ (rw (f, lt-leb _ _ l)) (stops 10 _ t))

  pub at_end : outside 1 8 n ≡ false → outside 1 n m ≡ false → length rows ≡ m → any_from (2 ^ n) rows ≡ false → k < 2 ^ m
      → any_from (2 ^ n) (a ∷ b ∷ c ∷ []) ≡ false → 0 ≡ layer_refusal n m rows k a b c
  at_end p q e f l t = after_8 p q e (goes 9 _ (rw (f, lt-leb _ _ l)) (goes 10 _ t none_applies))

  -- an accepted layer's widths and numbers
  pub record Accepted : Type 0 where
    pub width : outside 1 8 m ≡ false
    pub counted : length rows ≡ m
    pub constant : k < 2 ^ m

  pub accepted : layer_refusal n m rows k a b c ≡ 0 → Accepted
  unfolding layer_refusal
  accepted e =
      let p = passed _ 2 _ e in
      let q = passed _ 3 _ p.1 in
      let s = passed _ 7 _ q.1 in
      let t = passed _ 8 _ s.1 in
      let u = neither (any_from (2 ^ n) rows) (leb (2 ^ m) k) t.0 in
      let w = inside 1 8 n p.0 in
      let v = inside 1 n m q.0 in
      record {
        width = not_outside v.0 (le_trans v.1 w.1);
        counted = eqb-true _ _ (not-false _ s.0);
        constant = leb-false (2 ^ m) k u.1;
      }

-- the output's width leaves room for the shift, as the input's does
pub output_small : (n m : ℕ) (r s : Bool) → r ≡ outside 1 8 n → r ≡ false → s ≡ outside 1 n m → s ≡ false → m < 32
output_small n m r s e p f q = omega (arith, inside 1 8 n (sym e ∙ p), inside 1 n m (sym f ∙ q))

-- what the code's comparisons say, whose sides are a call's results
pub constant_wide : (size m k : ℕ) → size ≡ 2 ^ m → size ≤ k → 2 ^ m ≤ k
constant_wide size m k e h = rw e at h

pub constant_small : (size m k : ℕ) → size ≡ 2 ^ m → k < size → k < 2 ^ m
constant_small size m k e h = rw e at h

-- an accepted layer has few rows
pub few_rows : (n m : ℕ) (rows : List ℕ) (k a b c : ℕ) → 0 ≡ layer_refusal n m rows k a b c → length rows ≤ 8
few_rows n m rows k a b c e =
    let known = accepted n m rows k a b c (sym e) in
    omega (arith, inside 1 8 m known.width, known.counted)
