-- How a line is printed, number by number.
use mathlib.Core.Path.{◌≡◌, refl, sym, ap, ◌∙◌}
use mathlib.Core.List.{List, [], ◌∷◌, ◌++◌, append_assoc}
use Prim.Native.Nat.{ℕ, ◌+◌, ◌*◌, ◌≤◌, ◌<◌}
use native.Mathlib.Omega.{arith}
use lib.ListN.{length, get_or, set, length-append}
use Rattle.buffers.specs.Written.{written, in_front}
use Rattle.buffers.proofs.Written.{written_more, written_front, set_written}
use Rattle.buffers.proofs.Blocks.{blocks, blocks_front, blocks_long}
use Rattle.buffers.proofs.Blocks.{Stacking, stacking_turns, stacking_ends}
use Rattle.field.specs.Printed.{printed}
use Rattle.field.proofs.Printing.{printed_long}
use Rattle.log_print.specs.Lines.{line_of}

-- a number of a line
abbrev pub number_at : (columns : ℕ) → List ℕ → ℕ → List ℕ
number_at columns numbers i = printed columns (get_or numbers i 0)

line_split : (columns : ℕ) (numbers : List ℕ) → line_of columns numbers ≡ blocks (number_at columns numbers) (length numbers) ++ (10 ∷ [])
unfolding line_of blocks
line_split columns [] = refl
line_split columns (x ∷ xs) =
    rw (blocks_front (number_at columns (x ∷ xs)) (length xs), line_split columns xs) (sym (append_assoc (printed columns x) _ _))

fields_long : (columns : ℕ) (numbers : List ℕ) (k : ℕ) → length (blocks (number_at columns numbers) k) ≡ k * columns
fields_long columns numbers k = blocks_long columns (number_at columns numbers) k (λ i h. printed_long columns (get_or numbers i 0))

pub line_long : (columns : ℕ) (numbers : List ℕ) → length (line_of columns numbers) ≡ length numbers * columns + 1
line_long columns numbers =
    ap length (line_split columns numbers) ∙ length-append (blocks (number_at columns numbers) (length numbers)) _
    ∙ omega (arith, fields_long columns numbers (length numbers))

-- the first i numbers are printed
abbrev pub Filling : (columns at : ℕ) → (numbers before now : List ℕ) → (i : ℕ) → Type 0
Filling columns at numbers before now i = Stacking at columns (length numbers) (number_at columns numbers) before now i

module _ (columns at : ℕ) (numbers before : List ℕ) (room : at + length numbers * columns < length before) where
  module _ (now : List ℕ) (i : ℕ) (f : Filling columns at numbers before now i) where
    enough : at + length numbers * columns ≤ length before
    enough = omega arith

    pub filling_turns : (after : List ℕ) → i < length numbers
        → after ≡ written now (at + i * columns) (printed columns (get_or numbers i 0))
        → Filling columns at numbers before after (i + 1)
    filling_turns after h e =
        stacking_turns at columns _ (number_at columns numbers) before now i f after (at + i * columns)
        (λ j l. printed_long columns (get_or numbers j 0)) h enough refl e

    -- the line feed behind them
    feed_room : at + length numbers * columns < length now
    feed_room = omega (arith, f.long)

    pub filling_ends : length numbers ≤ i → set now (at + length numbers * columns) 10 ≡ written before at (line_of columns numbers)
    filling_ends h =
        let fields = blocks (number_at columns numbers) (length numbers) in
        let next = at + length numbers * columns in
        let end : at + length fields ≡ next = omega (arith, fields_long columns numbers (length numbers)) in
        set_written now next 10 feed_room
        ∙ rw (stacking_ends at columns _ (number_at columns numbers) before now i f h)
        (written_more before at next fields (10 ∷ []) end (omega (arith, feed_room, f.long)))
        ∙ ap (written before at) (sym (line_split columns numbers))

-- a refusal is a line alone
pub refusal_long : (x : ℕ) → 7 ≡ length (line_of 6 (x ∷ []))
refusal_long x = sym (line_long 6 (x ∷ []))

pub refusal_left : (before now : List ℕ) (x number : ℕ) → number ≡ x → now ≡ written before 0 (line_of 6 (number ∷ []))
    → now ≡ in_front (line_of 6 (x ∷ [])) before
refusal_left before now x number same e = e ∙ rw same (written_front before _)
