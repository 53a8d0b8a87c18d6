-- A turn's place and entry, where they stand among its values; and the log that head, turns and end make.
use mathlib.Core.Path.{◌≡◌, ap, ◌∙◌}
use mathlib.Core.List.{List, [], ◌∷◌}
use Prim.Native.Nat.{ℕ, ◌+◌, ◌*◌, ◌^◌, ◌≤◌}
use lib.ListN.{length, get_or}
use Rattle.bits.specs.Xor.{◌⊕◌}
use Rattle.buffers.specs.Written.{written, in_front}
use Rattle.log_entries.specs.Entries.{entries}
use Rattle.log_entries.proofs.Logging.{rows_entries, none_passed, one_passed, layout_written}
use Rattle.lookup.specs.declared.Case.{Case}
use Rattle.lookup.specs.Case.{Q}
use Rattle.lookup.specs.Bounded.{Bounded}
use Rattle.lookup.specs.Layout.{pass_lines, lines, layout_size}
use Rattle.lookup.specs.Row.{kinds, values, row_entry, masked}
use Rattle.lookup.specs.Method2.{r_prime, scratch_2, head_2, pass_2, end_2, method_2}
use Rattle.method2.proofs.Filling.{filled_answers}

module _ (c : Case) (table : List ℕ) where
  pub turn_place : (a : ℕ) (shown : List ℕ) → shown ≡ values c table a pass_2 → get_or shown 1 0 ≡ a ⊕ r_prime c
  turn_place a shown e = ap (λ vs. get_or vs 1 0) e

  pub turn_value : (a : ℕ) (shown : List ℕ) → shown ≡ values c table a pass_2 → get_or shown 5 0 ≡ masked c table a
  turn_value a shown e = ap (λ vs. get_or vs 5 0) e

  pub turned_whole : (scratch₀ log₀ first second third filled : List ℕ) → Bounded c → 2 ^ c.n ≤ length scratch₀
      → layout_size (2 ^ c.n) method_2.layout ≤ length log₀
      → first ≡ written log₀ 0 (entries (kinds head_2) (values c [] 0 head_2))
      → filled ≡ scratch_2 (Q c) c table scratch₀ → second ≡ written first 8 (pass_lines (row_entry c table) (Q c) pass_2)
      → third ≡ written second (8 + 6 * 2 ^ c.n) (entries (kinds end_2) (c.r3 ∷ get_or filled c.r3 0 ∷ []))
      → third ≡ in_front (lines (row_entry c table) (Q c) method_2.layout) log₀
  unfolding Q
  turned_whole scratch₀ log₀ first second third filled k room_scratch room f z g t =
      layout_written (row_entry c table) (2 ^ c.n) method_2.layout log₀ first second third room
      (f ∙ ap (written log₀ 0) (rows_entries c table 0 head_2))
      (one_passed g none_passed)
      (t ∙ rw (filled_answers c table scratch₀ filled k room_scratch z)
      (ap (written second (8 + 6 * 2 ^ c.n)) (rows_entries c table 0 end_2)))
