-- How numbers are printed, a line for each.
use mathlib.Core.Path.{◌≡◌, refl, sym, ap, ◌∙◌}
use mathlib.Core.List.{List, [], ◌∷◌}
use Prim.Native.Nat.{ℕ, ◌+◌, ◌*◌, ◌≤◌, ◌<◌}
use native.Mathlib.Omega.{arith}
use lib.ListN.{length, get_or}
use Rattle.buffers.specs.Written.{written}
use Rattle.buffers.proofs.Blocks.{blocks, blocks_front, blocks_long}
use Rattle.buffers.proofs.Blocks.{Stacking, stacking_turns, stacking_ends}
use Rattle.log_print.specs.Lines.{line_of, column_of}
use Rattle.log_print.proofs.Lines.{line_long}

-- the line of a number
abbrev pub line_at : (columns : ℕ) → List ℕ → ℕ → List ℕ
line_at columns numbers i = line_of columns (get_or numbers i 0 ∷ [])

line_size : (columns x : ℕ) → length (line_of columns (x ∷ [])) ≡ columns + 1
line_size columns x = line_long columns (x ∷ []) ∙ omega arith

column_blocks : (columns : ℕ) (numbers : List ℕ) → column_of columns numbers ≡ blocks (line_at columns numbers) (length numbers)
unfolding column_of blocks
column_blocks columns [] = refl
column_blocks columns (x ∷ xs) = rw (column_blocks columns xs) (sym (blocks_front (line_at columns (x ∷ xs)) (length xs)))

pub column_long : (columns : ℕ) (numbers : List ℕ) → length (column_of columns numbers) ≡ length numbers * (columns + 1)
column_long columns numbers =
    ap length (column_blocks columns numbers)
    ∙ blocks_long (columns + 1) (line_at columns numbers) (length numbers) (λ i h. line_size columns (get_or numbers i 0))

-- the first i lines are printed
abbrev pub Lining : (columns at : ℕ) → (numbers before now : List ℕ) → (i : ℕ) → Type 0
Lining columns at numbers before now i = Stacking at (columns + 1) (length numbers) (line_at columns numbers) before now i

module _ (columns at : ℕ) (numbers before : List ℕ) (room : at + length numbers * (columns + 1) ≤ length before) where
  module _ (now : List ℕ) (i : ℕ) (f : Lining columns at numbers before now i) where
    pub lining_turns : (after : List ℕ) → i < length numbers
        → after ≡ written now (at + i * (columns + 1)) (line_of columns (get_or numbers i 0 ∷ []))
        → Lining columns at numbers before after (i + 1)
    lining_turns after h e =
        stacking_turns at (columns + 1) _ (line_at columns numbers) before now i f after (at + i * (columns + 1))
        (λ j l. line_size columns (get_or numbers j 0)) h room refl e

    pub lining_ends : length numbers ≤ i → now ≡ written before at (column_of columns numbers)
    lining_ends h =
        stacking_ends at (columns + 1) _ (line_at columns numbers) before now i f h
        ∙ ap (written before at) (sym (column_blocks columns numbers))
