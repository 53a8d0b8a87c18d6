-- How a log is written part by part: the turns of a pass one after the other, then head, passes and end together, for any layout.
use mathlib.Core.Path.{◌≡◌, refl, sym, ap, ◌∙◌}
use mathlib.Core.List.{List, [], ◌∷◌, ◌++◌, map, append-nil}
use Prim.Native.Nat.{ℕ, ◌+◌, ◌*◌, ◌^◌, ◌≤◌, ◌<◌}
use native.Mathlib.Nat.{add-zero, mul-le-mul_left}
use native.Mathlib.Numerals.{add-one}
use native.Mathlib.Omega.{arith}
use lib.ListN.{length, take-append-drop, length-append, length-map}
use Rattle.lookup.specs.declared.Case.{Case}
use Rattle.lookup.specs.Case.{Q}
use Rattle.lookup.specs.Layout.{Layout, pass_lines, passes_lines, lines, all_rows, layout_size}
use Rattle.lookup.specs.Row.{Row, kinds, values, row_entry}
use Rattle.lookup.proofs.Layouts.{pass_long, passes_long}
use Rattle.buffers.specs.Written.{written, in_front}
use Rattle.buffers.proofs.Written.{written_more, written_long, written_front}
use Rattle.log_entries.specs.Entries.{entries}

-- the entries of rows, from their kinds and their values
pub rows_entries : (c : Case) (table : List ℕ) (a : ℕ) (rows : List Row)
    → entries (kinds rows) (values c table a rows) ≡ map (row_entry c table a) rows
unfolding entries
rows_entries c table a [] = refl
rows_entries c table a (r ∷ rs) = ap (λ es. row_entry c table a r ∷ es) (rows_entries c table a rs)

written_none : (start : ℕ) (log : List ℕ) → log ≡ written log start []
unfolding written
written_none start log = sym (simp (append-nil, add-zero) (take-append-drop start log))

module _ {A : Type 0} (show : ℕ → A → ℕ) (pass : List A) (start : ℕ) where
  -- the log after the first a turns of a pass that starts at a position
  pub record Logging (before now : List ℕ) (a : ℕ) : Type 0 where
    pub logged : now ≡ written before start (pass_lines show a pass)
    pub long : length now ≡ length before

  pub logging_begins : (before : List ℕ) → Logging before before 0
  unfolding pass_lines
  logging_begins before = record { logged = written_none start before; long = refl }

  pub logging_turns : (position a : ℕ) (before now next new : List ℕ) → position ≡ start + length pass * a
      → start + length pass * (a + 1) ≤ length before
      → new ≡ map (show a) pass → next ≡ written now position new → Logging before now a → Logging before next (a + 1)
  unfolding pass_lines
  logging_turns position a before now next new p room e w l =
      let count = pass_long show a pass in
      let turn = length-map pass (show a) in
      let at : start + length (pass_lines show a pass) ≡ position = omega (arith, count) in
      let fits : position + length (map (show a) pass) ≤ length before = omega (arith, turn) in
      record {
        logged = rw add-one (w ∙ rw (l.logged, e) (written_more before start position (pass_lines show a pass) (map (show a) pass) at fits));
        long = ap length w ∙ written_long now position new (omega (arith, l.long, ap length e)) ∙ l.long;
      }

-- so many passes one after the other
module _ {A : Type 0} (show : ℕ → A → ℕ) (turns : ℕ) where
  pub data Passed : (start : ℕ) → (passes : List (List A)) → (before after : List ℕ) → Type 0 where
    none_passed : {start : ℕ} {log : List ℕ} → Passed start [] log log
    one_passed : {start : ℕ} {pass : List A} {passes : List (List A)} {before next after : List ℕ}
        → next ≡ written before start (pass_lines show turns pass) → Passed (start + length pass * turns) passes next after
        → Passed start (pass ∷ passes) before after

  pub passed_written : {start : ℕ} {passes : List (List A)} {before after : List ℕ} → start + length (all_rows passes) * turns ≤ length before
      → Passed start passes before after → after ≡ written before start (passes_lines show turns passes)
  unfolding passes_lines
  passed_written {start} room (none_passed {log = log}) = written_none start log
  passed_written {start} room (one_passed {pass = p} {passes = ps} {before = before} {next = next} w d) =
      let both = rw (length-append p (all_rows ps)) at room in
      let first = pass_long show turns p in
      let long : length next ≡ length before = ap length w ∙ written_long before start (pass_lines show turns p) (omega arith) in
      passed_written (omega arith) d
      ∙ rw w (written_more before start _ (pass_lines show turns p) (passes_lines show turns ps) (omega arith)
      (omega (arith, passes_long show turns ps)))

  -- head, passes and end make the log
  pub layout_passed : (l : Layout A) (log first second third : List ℕ) → layout_size turns l ≤ length log
      → first ≡ written log 0 (map (show 0) l.head)
      → second ≡ written first (length l.head) (passes_lines show turns l.passes)
      → third ≡ written second (length l.head + length (all_rows l.passes) * turns) (map (show 0) l.end)
      → third ≡ in_front (lines show turns l) log
  unfolding lines
  layout_passed l log first second third room f s t =
      let head = map (show 0) l.head in
      let middle = passes_lines show turns l.passes in
      let end = map (show 0) l.end in
      let head_count = length-map l.head (show 0) in
      let middle_count = passes_long show turns l.passes in
      let end_count = length-map l.end (show 0) in
      let two : second ≡ written log 0 (head ++ middle) = s ∙ rw f (written_more log 0 _ head middle (omega arith) (omega arith)) in
      t ∙ rw two (written_more log 0 _ (head ++ middle) end (omega (arith, length-append head middle)) (omega arith)) ∙ written_front log _

  pub layout_written : (l : Layout A) (log first second third : List ℕ) → layout_size turns l ≤ length log
      → first ≡ written log 0 (map (show 0) l.head)
      → Passed (length l.head) l.passes first second
      → third ≡ written second (length l.head + length (all_rows l.passes) * turns) (map (show 0) l.end)
      → third ≡ in_front (lines show turns l) log
  layout_written l log first second third room f s t =
      let head_count = length-map l.head (show 0) in
      let long : length first ≡ length log = ap length f ∙ written_long log 0 (map (show 0) l.head) (omega arith) in
      layout_passed l log first second third room f (passed_written (omega arith) s) t

-- a loop over the table that writes a pass of rows: each turn's values are what the rows show; `behind` entries follow the pass
module _ (c : Case) (table : List ℕ) (pass : List Row) (start : ℕ) where
  abbrev Rows : (before now : List ℕ) → (turns : ℕ) → Type 0
  Rows before now a = Logging (row_entry c table) pass start before now a

  pub rows_turns : (before now next shown : List ℕ) (size a behind : ℕ) → size ≡ 2 ^ c.n → a < size
      → start + length pass * 2 ^ c.n + behind ≤ length before → shown ≡ values c table a pass
      → next ≡ written now (start + length pass * a) (entries (kinds pass) shown) → Rows before now a → Rows before next (a + 1)
  rows_turns before now next shown size a behind s h room v w l =
      let more = mul-le-mul_left (length pass) (rw s at h) in
      logging_turns (row_entry c table) pass start _ a before now next _ refl (omega arith) (rw v (rows_entries c table a pass)) w l

  pub rows_room : (before now : List ℕ) (size a behind : ℕ) → size ≡ 2 ^ c.n → a < size
      → start + length pass * 2 ^ c.n + behind ≤ length before
      → Rows before now a → start + length pass * (a + 1) ≤ length now
  rows_room before now size a behind s h room l =
      let more = mul-le-mul_left (length pass) (rw s at h) in
      omega (arith, l.long)

  pub rows_ends : (before now : List ℕ) (size a : ℕ) → size ≡ 2 ^ c.n → size ≤ a → a ≤ 2 ^ c.n → Rows before now a
      → now ≡ written before start (pass_lines (row_entry c table) (Q c) pass)
  unfolding Q
  rows_ends before now size a s h within l =
      let whole : a ≡ 2 ^ c.n = omega arith in
      l.logged ∙ ap (λ k. written before start (pass_lines (row_entry c table) k pass)) whole

-- what a write told, where its values or its position are known by another name
pub written_shown : (log next kinds shown wanted : List ℕ) (position : ℕ) → shown ≡ wanted
    → next ≡ written log position (entries kinds shown)
    → next ≡ written log position (entries kinds wanted)
written_shown log next kinds shown wanted position e w = w ∙ ap (λ vs. written log position (entries kinds vs)) e

pub written_behind : (log next new : List ℕ) (start size turns n : ℕ) → turns ≡ 2 ^ n → next ≡ written log (start + size * turns) new
    → next ≡ written log (start + size * 2 ^ n) new
written_behind log next new start size turns n e w = w ∙ ap (λ k. written log (start + size * k) new) e
