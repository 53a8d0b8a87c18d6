-- A turn's comparison and entry, where they stand among its values; and the log that head, turns and end make.
use mathlib.Core.Path.{◌≡◌, ap, ◌∙◌}
use mathlib.Core.List.{List, [], ◌∷◌}
use Prim.Native.Nat.{ℕ, ◌+◌, ◌*◌, ◌^◌, ◌≤◌, ◌<◌}
use lib.ListN.{length, get_or}
use Rattle.buffers.specs.Written.{written, in_front}
use Rattle.log_entries.specs.Entries.{entries}
use Rattle.log_entries.proofs.Logging.{rows_entries, none_passed, one_passed, layout_written}
use Rattle.lookup.specs.declared.Case.{Case}
use Rattle.lookup.specs.Case.{Q}
use Rattle.lookup.specs.Bounded.{Bounded}
use Rattle.lookup.specs.Layout.{pass_lines, lines, layout_size}
use Rattle.lookup.specs.Row.{kinds, values, row_entry, masked}
use Rattle.lookup.specs.Method3.{compared, registers_3, head_3, pass_3, end_3, method_3}
use Rattle.method3.proofs.Comparing.{bit}
use Rattle.method3.proofs.Selecting.{selected_answers}

module _ (c : Case) (table : List ℕ) where
  pub turn_compared : (a : ℕ) (shown : List ℕ) → shown ≡ values c table a pass_3 → get_or shown 4 0 ≡ compared c a
  turn_compared a shown e = ap (λ vs. get_or vs 4 0) e

  pub turn_value : (a : ℕ) (shown : List ℕ) → shown ≡ values c table a pass_3 → get_or shown 8 0 ≡ masked c table a
  turn_value a shown e = ap (λ vs. get_or vs 8 0) e

  -- the comparison names a register
  pub turn_register : (shown : List ℕ) (size a : ℕ) → Bounded c → size ≡ 2 ^ c.n → a < size → shown ≡ values c table a pass_3
      → get_or shown 4 0 < 2
  turn_register shown size a k s h v = rw (turn_compared a shown v) (bit c table a k (rw s at h))

  pub turned_whole : (log₀ first second third registers : List ℕ) → layout_size (2 ^ c.n) method_3.layout ≤ length log₀
      → first ≡ written log₀ 0 (entries (kinds head_3) (values c [] 0 head_3))
      → registers ≡ registers_3 (Q c) c table → second ≡ written first 8 (pass_lines (row_entry c table) (Q c) pass_3)
      → third ≡ written second (8 + 9 * 2 ^ c.n) (entries (kinds end_3) (c.b ∷ get_or registers c.b 0 ∷ []))
      → third ≡ in_front (lines (row_entry c table) (Q c) method_3.layout) log₀
  unfolding Q
  turned_whole log₀ first second third registers room f z g t =
      layout_written (row_entry c table) (2 ^ c.n) method_3.layout log₀ first second third room
      (f ∙ ap (written log₀ 0) (rows_entries c table 0 head_3))
      (one_passed g none_passed)
      (t ∙ rw (selected_answers c table registers z) (ap (written second (8 + 9 * 2 ^ c.n)) (rows_entries c table 0 end_3)))
