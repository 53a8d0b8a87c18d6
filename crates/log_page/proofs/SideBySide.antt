-- How entries are printed side by side, and a line of them.
use mathlib.Core.Path.{◌≡◌, refl, sym, ap, ◌∙◌}
use mathlib.Core.List.{List, [], ◌∷◌, ◌++◌}
use Prim.Native.Nat.{ℕ, ◌+◌, ◌*◌, ◌-◌, ◌≤◌, ◌<◌}
use native.Mathlib.Omega.{arith}
use lib.ListN.{length, get_or, set, length-append}
use Rattle.buffers.specs.Written.{written}
use Rattle.buffers.proofs.Written.{written_more, written_long, set_written}
use Rattle.buffers.proofs.Blocks.{blocks, numbered_blocks, blocks_long, Stacking, stacking_turns, stacking_ends}
use Rattle.field.specs.Printed.{printed}
use Rattle.field.proofs.Printing.{printed_long}
use Rattle.lookup.specs.Entry.{kind_of, value_of}
use Rattle.log_page.specs.Page.{entry_columns, side_by_side, blanks, filled}
use Rattle.log_page.proofs.Blanks.{blanks_long}

-- AN ENTRY
-- three numbers, one behind the other
pub entry_left : (before first second now : List ℕ) (at position entry kind value : ℕ) → at + 16 ≤ length before
    → kind ≡ kind_of entry → value ≡ value_of entry → first ≡ written before at (printed 6 position)
    → second ≡ written first (at + 6) (printed 4 kind) → now ≡ written second (at + 10) (printed 6 value)
    → now ≡ written before at (entry_columns position entry)
unfolding entry_columns
entry_left before first second now at position entry kind value room k v e f g =
    let one = printed_long 6 position in
    let two = printed_long 4 kind in
    let both : at + length (printed 6 position ++ printed 4 kind) ≡ at + 10 = omega (arith, length-append (printed 6 position) (printed 4 kind)) in
    let pair : second ≡ written before at (printed 6 position ++ printed 4 kind)
    = f ∙ rw e (written_more before at (at + 6) (printed 6 position) _ (omega arith) (omega arith)) in
    let three : now ≡ written before at (printed 6 position ++ printed 4 kind ++ printed 6 value)
    = g ∙ rw pair (written_more before at (at + 10) _ (printed 6 value) both (omega (arith, printed_long 6 value))) in
    rw (← k, ← v) three

pub entry_long : (position entry : ℕ) → length (entry_columns position entry) ≡ 16
unfolding entry_columns
entry_long position entry =
    length-append (printed 6 position ++ printed 4 (kind_of entry)) (printed 6 (value_of entry))
    ∙ omega (
      arith,
      length-append (printed 6 position) (printed 4 (kind_of entry)),
      printed_long 6 position,
      printed_long 4 (kind_of entry),
      printed_long 6 (value_of entry),
    )

-- ENTRIES SIDE BY SIDE
abbrev pub entry_at : (position : ℕ) → List ℕ → ℕ → List ℕ
entry_at position entries i = entry_columns (position + i) (get_or entries i 0)

side_blocks : (position : ℕ) (entries : List ℕ) → side_by_side position entries ≡ blocks (entry_at position entries) (length entries)
unfolding side_by_side
side_blocks position entries = numbered_blocks entry_columns side_by_side (λ p. refl) (λ p x xs. refl) position entries

pub side_long : (position : ℕ) (entries : List ℕ) → length (side_by_side position entries) ≡ length entries * 16
side_long position entries =
    ap length (side_blocks position entries)
    ∙ blocks_long 16 (entry_at position entries) (length entries) (λ i h. entry_long (position + i) (get_or entries i 0))

-- the first i entries are printed
abbrev pub Siding : (at position : ℕ) → (entries before now : List ℕ) → (i : ℕ) → Type 0
Siding at position entries before now i = Stacking at 16 (length entries) (entry_at position entries) before now i

module _ (at position : ℕ) (entries before now : List ℕ) (i : ℕ) (s : Siding at position entries before now i) where
  pub siding_turns : (after : List ℕ) → at + length entries * 16 ≤ length before → i < length entries
      → after ≡ written now (at + 16 * i) (entry_columns (position + i) (get_or entries i 0))
      → Siding at position entries before after (i + 1)
  siding_turns after room h e =
      stacking_turns at 16 _ (entry_at position entries) before now i s after (at + 16 * i)
      (λ j l. entry_long (position + j) (get_or entries j 0)) h room (omega arith) e

  pub siding_ends : length entries ≤ i → now ≡ written before at (side_by_side position entries)
  siding_ends h =
      stacking_ends at 16 _ (entry_at position entries) before now i s h ∙ ap (written before at) (sym (side_blocks position entries))

-- A LINE
-- filled with spaces, and ended by a line feed
pub filled_long : (columns : ℕ) (line : List ℕ) → length line ≤ columns → length (filled columns line) ≡ columns + 1
unfolding filled
filled_long columns line h =
    let gap = blanks (columns - length line) in
    length-append (line ++ gap) (10 ∷ []) ∙ omega (arith, length-append line gap, blanks_long (columns - length line))

pub line_left : (before first second : List ℕ) (at position : ℕ) (entries : List ℕ) → length entries ≤ 5 → at + 81 ≤ length before
    → first ≡ written before at (side_by_side position entries)
    → second ≡ written first (at + 16 * length entries) (blanks (80 - 16 * length entries))
    → set second (at + 80) 10 ≡ written before at (filled 80 (side_by_side position entries))
unfolding filled
line_left before first second at position entries few room e f =
    let line = side_by_side position entries in
    let long = side_long position entries in
    let used : 16 * length entries ≡ length line = omega arith in
    let gap = blanks (80 - length line) in
    let size_of_gap = blanks_long (80 - length line) in
    let whole : at + length (line ++ gap) ≡ at + 80 = omega (arith, length-append line gap) in
    let pair : second ≡ written before at (line ++ gap)
    = f ∙ rw (e, used) (written_more before at (at + length line) line gap refl (omega arith)) in
    let size : length second ≡ length before = ap length pair ∙ written_long before at (line ++ gap) (omega (arith, whole)) in
    set_written second (at + 80) 10 (omega arith)
    ∙ rw pair (written_more before at (at + 80) (line ++ gap) (10 ∷ []) whole (omega arith))
