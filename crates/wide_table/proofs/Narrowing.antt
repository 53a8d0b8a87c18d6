-- The entries of a table that is not wide, as bytes.
use mathlib.Core.Path.{◌≡◌, refl, sym, ◌∙◌}
use mathlib.Core.Bool.{false}
use mathlib.Core.List.{List}
use Prim.Native.Nat.{ℕ, ◌+◌, ◌≤◌, ◌<◌}
use native.Mathlib.Nat.{zero-add}
use native.Mathlib.Omega.{arith}
use mir.Syntax.{w8}
use mir.Val.{Fits}
use lib.ListN.{length, get_or, take, set, length-take}
use Rattle.buffers.specs.Written.{in_front}
use Rattle.buffers.proofs.Written.{written_front, in_front_take}
use Rattle.buffers.proofs.Pasting.{Pasting, pasting_turns, pasting_ends}
use Rattle.table.specs.Balanced.{at}
use Rattle.table.proofs.Balanced.{at_below}
use Rattle.wide_table.specs.Wide.{wide}

pub entry_fits : (table : List ℕ) (i : ℕ) → wide table ≡ false → Fits w8 (get_or table i 0)
unfolding wide at
entry_fits table i h = record { fits = at_below 256 table (omega arith) h i }

module _ (table before now : List ℕ) (i : ℕ) (p : Pasting before now 0 table i) where
  pub narrowing_turns : length table ≤ length before → i < length table → Pasting before (set now i (get_or table i 0)) 0 table (i + 1)
  narrowing_turns room h = rw zero-add at (pasting_turns before 0 table now i (get_or table i 0) (omega arith) h refl p)

  pub narrowing_ends : length table ≤ i → now ≡ in_front table before
  narrowing_ends h = pasting_ends before 0 table now i h p ∙ written_front before table

-- the bytes in front are the entries
module _ (table zeros bytes : List ℕ) (narrowed : bytes ≡ in_front table zeros) (entries : ℕ) (lent : entries ≡ length table) where
  pub bytes_taken : take entries bytes ≡ table
  bytes_taken = rw narrowed (in_front_take table zeros entries (sym lent))

  pub bytes_lent : entries ≡ length (take entries bytes)
  bytes_lent = rw bytes_taken lent

  pub bytes_within : entries ≤ length bytes
  bytes_within = omega (arith, bytes_lent, length-take entries bytes)
