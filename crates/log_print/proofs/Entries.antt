-- How a log is printed, line by line.
use mathlib.Core.Path.{◌≡◌, refl, sym, ap, ◌∙◌}
use mathlib.Core.List.{List, [], ◌∷◌}
use Prim.Native.Nat.{ℕ, ◌+◌, ◌*◌, ◌≤◌, ◌<◌}
use native.Mathlib.Omega.{arith}
use lib.ListN.{length, get_or, length-append}
use Rattle.buffers.specs.Written.{written, in_front}
use Rattle.buffers.proofs.Written.{written_more, written_front}
use Rattle.buffers.proofs.Blocks.{blocks, numbered_blocks, blocks_long}
use Rattle.buffers.proofs.Blocks.{Stacking, stacking_turns, stacking_ends}
use Rattle.lookup.specs.Entry.{kind_of, value_of}
use Rattle.log_print.specs.Lines.{line_of, entry_lines, answer_lines}
use Rattle.log_print.proofs.Lines.{line_long}

-- the line of an entry, in the first position and those behind it
abbrev pub entry_at : (columns first : ℕ) → List ℕ → ℕ → List ℕ
entry_at columns first log i = line_of columns ((first + i) ∷ kind_of (get_or log i 0) ∷ value_of (get_or log i 0) ∷ [])

entry_blocks : (columns first : ℕ) (log : List ℕ) → entry_lines columns first log ≡ blocks (entry_at columns first log) (length log)
unfolding entry_lines
entry_blocks columns first log =
    numbered_blocks (λ p x. line_of columns (p ∷ kind_of x ∷ value_of x ∷ [])) (entry_lines columns) (λ p. refl) (λ p x xs. refl) first log

line_19 : (x y z : ℕ) → length (line_of 6 (x ∷ y ∷ z ∷ [])) ≡ 19
line_19 x y z = line_long 6 (x ∷ y ∷ z ∷ [])

entries_long : (first : ℕ) (log : List ℕ) → length (entry_lines 6 first log) ≡ length log * 19
entries_long first log =
    ap length (entry_blocks 6 first log) ∙ blocks_long 19 (entry_at 6 first log) (length log) (λ i h. line_19 (first + i) _ _)

-- the lines of the first i entries are printed
abbrev pub Listing : (first : ℕ) → (log before now : List ℕ) → (i : ℕ) → Type 0
Listing first log before now i = Stacking 0 19 (length log) (entry_at 6 first log) before now i

module _ (first : ℕ) (log before now : List ℕ) (i : ℕ) (s : Listing first log before now i) where
  pub listing_turns : (next : List ℕ) → 19 * length log ≤ length before → i < length log → next ≡ written now (19 * i) (entry_at 6 first log i)
      → Listing first log before next (i + 1)
  listing_turns next room h e =
      stacking_turns 0 19 _ (entry_at 6 first log) before now i s next (19 * i) (λ j l. line_19 (first + j) _ _) h (omega arith) (omega arith) e

  pub listing_ends : length log ≤ i → now ≡ written before 0 (entry_lines 6 first log)
  listing_ends h =
      stacking_ends 0 19 _ (entry_at 6 first log) before now i s h ∙ ap (written before 0) (sym (entry_blocks 6 first log))

-- the last line
pub listing_whole : (log before first second : List ℕ) (share count : ℕ) → 19 * length log + 19 ≤ length before
    → first ≡ written before 0 (entry_lines 6 0 log)
    → second ≡ written first (19 * length log) (line_of 6 (0 ∷ share ∷ count ∷ []))
    → second ≡ in_front (answer_lines 6 log share count) before
unfolding answer_lines
listing_whole log before first second share count room e f =
    f ∙ rw e (written_more before 0 (19 * length log) (entry_lines 6 0 log) _ (omega (arith, entries_long 0 log))
    (omega (arith, line_19 0 share count)))
    ∙ written_front before _

pub answer_long : (log : List ℕ) (share count : ℕ) → 19 * length log + 19 ≡ length (answer_lines 6 log share count)
unfolding answer_lines
answer_long log share count =
    sym (length-append (entry_lines 6 0 log) _ ∙ omega (arith, entries_long 0 log, line_19 0 share count))
