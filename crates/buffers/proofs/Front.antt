-- What a loop keeps that fills the front of a buffer with one value.
use mathlib.Core.Path.{◌≡◌, refl}
use mathlib.Core.List.{List, ◌++◌, append-nil}
use Prim.Native.Nat.{ℕ, ◌+◌, ◌≤◌, ◌<◌}
use native.Mathlib.Nat.{le_refl}
use native.Mathlib.Omega.{arith}
use borrow.Author.Fill.{fill_none, fill_more}
use lib.ListN.{length, drop, set, replicate, length-set}
use lib.Seq.{drop-length}

-- the first i bytes hold the value, and those behind them are as they were
pub record Front (value size : ℕ) (before now : List ℕ) (i : ℕ) : Type 0 where
  pub filled : now ≡ replicate i value ++ drop i before
  pub within : i ≤ size
  pub long : length now ≡ length before

module _ (value size : ℕ) (before : List ℕ) where
  pub front_begins : Front value size before before 0
  front_begins = record { filled = fill_none before value; within = omega arith; long = refl }

  pub front_turns : (now : List ℕ) (i : ℕ) → size ≤ length before → i < size → Front value size before now i
      → Front value size before (set now i value) (i + 1)
  front_turns now i room h f =
      record {
        filled = rw f.filled (fill_more i value before (omega arith));
        within = omega arith;
        long = simp length-set f.long;
      }

  pub front_ends : (now : List ℕ) (i : ℕ) → size ≤ i → Front value size before now i → now ≡ replicate size value ++ drop size before
  front_ends now i h f =
      let whole : i ≡ size = omega (arith, f.within) in
      rw whole at f.filled

-- a turn of a loop over the whole buffer: its test is of the buffer as it stands, whose length has not changed
pub front_whole_turns : (value : ℕ) (before now : List ℕ) (i : ℕ) → i < length now → Front value (length before) before now i
    → Front value (length before) before (set now i value) (i + 1)
front_whole_turns value before now i h f = front_turns value (length before) before now i (le_refl _) (omega (arith, f.long)) f

-- the whole buffer, where the loop has gone to its end
pub front_whole : (value : ℕ) (before now : List ℕ) (i : ℕ) → length now ≤ i → Front value (length before) before now i
    → now ≡ replicate (length before) value
front_whole value before now i h f =
    rw (drop-length before, append-nil) at (front_ends value (length before) before now i (omega (arith, f.long)) f)
