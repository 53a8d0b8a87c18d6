-- What the calls and comparisons of `table_refusal` tell of its widths and of its table.
use mathlib.Core.Path.{◌≡◌, sym, ◌∙◌}
use mathlib.Core.Bool.{Bool, true, false}
use mathlib.Core.List.{List}
use Prim.Native.Nat.{ℕ, ◌^◌, ◌≤◌, ◌<◌}
use native.Mathlib.Omega.{arith}
use borrow.Author.Tests.{le-leb, lt-leb}
use lib.ListN.{length}
use Rattle.refusals.specs.Tests.{outside, any_from}
use Rattle.refusals.proofs.Tests.{inside}
use Rattle.table.specs.Counts.{Tally, Counted}
use Rattle.table.proofs.Differences.{power_most}

-- an accepted width leaves room for a shift, and its power is small
pub room : {k : ℕ} → k ≤ 8 → k < 32
room h = omega arith

pub table_few : (k size : ℕ) (xs : List ℕ) → size ≡ 2 ^ k → length xs ≡ size → k ≤ 8 → length xs ≤ 256
table_few k size xs e l h = rw l (power_most k size e h)

pub width_most : (k : ℕ) (r : Bool) → r ≡ outside 1 8 k → r ≡ false → k ≤ 8
width_most k r e p = (inside 1 8 k (sym e ∙ p)).1

-- the length against a call's result
pub long : (size n : ℕ) (xs : List ℕ) → size ≡ 2 ^ n → length xs ≡ size → length xs ≡ 2 ^ n
long size n xs e h = h ∙ e

pub not_long : (size n : ℕ) (xs : List ℕ) → size ≡ 2 ^ n → (length xs ≡ size → ⊥) → length xs ≡ 2 ^ n → ⊥
not_long size n xs e h l = h (l ∙ sym e)

module _ {xs counts : List ℕ} {joined : ℕ} (t : Tally xs counts joined) where
  -- the joined entries against a call's result
  pub some_large : (limit m : ℕ) → limit ≡ 2 ^ m → limit ≤ joined → any_from (2 ^ m) xs ≡ true
  some_large limit m e h = t.large m ∙ le-leb _ _ (rw e at h)

  pub none_large : (limit m : ℕ) → limit ≡ 2 ^ m → joined < limit → any_from (2 ^ m) xs ≡ false
  none_large limit m e h = t.large m ∙ lt-leb _ _ (rw e at h)

  -- what the last check is handed
  pub counted_table : (n m size limit : ℕ) (r s : Bool) → r ≡ outside 1 8 n → r ≡ false → s ≡ outside 1 8 m → s ≡ false → size ≡ 2 ^ n
      → length xs ≡ size → limit ≡ 2 ^ m → joined < limit → Counted n m xs counts
  counted_table n m size limit r s e p f q g l k h =
      record {
        input_most = width_most n r e p;
        output_most = width_most m s f q;
        long = l ∙ g;
        small = none_large limit m k h;
        counted = t.counted;
      }
