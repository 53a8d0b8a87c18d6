-- No file is a sheet of both editions: the case line of four columns ends where six have a field.
use mathlib.Core.Path.{◌≡◌, refl, ap, ◌∙◌}
use mathlib.Core.Bool.{Bool, true, false, cond}
use mathlib.Core.List.{List, [], ◌∷◌, ◌++◌, append_assoc}
use Prim.Native.Nat.{ℕ, zero, suc, ◌+◌, ◌*◌, ◌-◌, ◌/◌, ◌%◌, ◌≤◌, ◌<◌}
use native.Mathlib.Nat.{mul-zero, mul-suc}
use native.Mathlib.Omega.{arith}
use borrow.Author.Tests.{leb-true, leb-false}
use lib.Dec.{eqb, leb}
use lib.ListN.{length, get_or, get_or-append}
use lib.Seq.{get_or_at, get_or-append-add}
use Rattle.field.specs.Printed.{mark, front, printed}
use Rattle.field.proofs.Printing.{front_long, printed_long}
use Rattle.case_sheet.specs.Edition.{four_columns, six_columns}
use Rattle.case_sheet.specs.Sheet.{numbers_of, table_of, well_formed}
use Rattle.case_sheet.proofs.Sheets.{every_number}
use Rattle.log_print.specs.Lines.{line_of, column_of}
use Rattle.conversion.specs.Conversion.{sheet_lines}
use Rattle.conversion.specs.Promises.{SheetOf, OneEdition}
use Rattle.conversion.proofs.Sheets.{sheet_is_lines, line_ended}

mark_visible : (left : ℕ) → 32 ≤ mark left
unfolding mark
mark_visible left = mark_visible_by_cases (eqb left 0)
  where
    mark_visible_by_cases : (t : Bool) → 32 ≤ cond t 32 (48 + left % 10)
    mark_visible_by_cases true = omega arith
    mark_visible_by_cases false = omega arith

-- a byte behind others: one of them, or the last
last_visible : (bytes : List ℕ) (byte i k : ℕ) → length bytes ≡ k → i < suc k → 32 ≤ byte → (i < k → 32 ≤ get_or bytes i 0)
    → 32 ≤ get_or (bytes ++ (byte ∷ [])) i 0
last_visible bytes byte i k l h b more = last_visible_by_cases (leb k i) refl
  where
    last_visible_by_cases : (t : Bool) → leb k i ≡ t → 32 ≤ get_or (bytes ++ (byte ∷ [])) i 0
    last_visible_by_cases true e =
        let here : length bytes ≡ i = omega (arith, leb-true k i e) in
        rw (get_or_at bytes byte [] 0 i here) b
    last_visible_by_cases false e =
        let before : i < k = leb-false k i e in
        rw (get_or-append bytes (byte ∷ []) 0 i (omega arith)) (more before)

front_visible : (columns left i : ℕ) → i < columns → 32 ≤ get_or (front columns left) i 0
unfolding front
front_visible zero left i h = absurd (omega arith)
front_visible (suc columns) left i h =
    last_visible (front columns (left / 10)) (mark left) i columns (front_long columns (left / 10)) h (mark_visible left)
    (front_visible columns (left / 10) i)

printed_visible : (columns value i : ℕ) → i < columns → 32 ≤ get_or (printed columns value) i 0
unfolding printed
printed_visible zero value i h = absurd (omega arith)
printed_visible (suc columns) value i h =
    last_visible (front columns (value / 10)) (48 + value % 10) i columns (front_long columns (value / 10)) h (omega arith)
    (front_visible columns (value / 10) i)

-- no byte of a line's fields is a line feed
line_visible : (columns : ℕ) (numbers rest : List ℕ) (i : ℕ) → i < columns * length numbers → 32 ≤ get_or (line_of columns numbers ++ rest) i 0
unfolding line_of
line_visible columns [] rest i h = absurd (omega (arith, mul-zero columns))
line_visible columns (value ∷ numbers) rest i h = line_visible_by_cases (leb columns i) refl (line_visible columns numbers rest (i - columns))
  where
    line_visible_by_cases : (t : Bool) → leb columns i ≡ t
        → (i - columns < columns * length numbers → 32 ≤ get_or (line_of columns numbers ++ rest) (i - columns) 0)
        → 32 ≤ get_or ((printed columns value ++ line_of columns numbers) ++ rest) i 0
    line_visible_by_cases false e more =
        let before : i < columns = leb-false columns i e in
        rw (
          append_assoc (printed columns value) (line_of columns numbers) rest,
          get_or-append (printed columns value) (line_of columns numbers ++ rest) 0 i (omega (arith, printed_long columns value)),
        )
        (printed_visible columns value i before)
    line_visible_by_cases true e more =
        let place : i ≡ length (printed columns value) + (i - columns) = omega (arith, printed_long columns value, leb-true columns i e) in
        let behind : get_or (printed columns value ++ (line_of columns numbers ++ rest)) i 0 ≡ get_or (line_of columns numbers ++ rest) (i - columns) 0
        = ap (λ k. get_or (printed columns value ++ (line_of columns numbers ++ rest)) k 0) place
        ∙ get_or-append-add (printed columns value) (line_of columns numbers ++ rest) (i - columns) 0 in
        rw (append_assoc (printed columns value) (line_of columns numbers) rest, behind)
        (more (omega (arith, mul-suc columns (length numbers), leb-true columns i e)))

-- the byte behind the tenth field of four columns
feed_at_40 : (input : List ℕ) → well_formed four_columns 10 input ≡ true → get_or input 40 0 ≡ 10
unfolding sheet_lines
feed_at_40 input w =
    let numbers = numbers_of four_columns 10 input in
    let end : 4 * length numbers ≡ 40 = omega (arith, every_number four_columns 10 input w) in
    let ended : get_or (line_of 4 numbers ++ column_of 4 (table_of four_columns 10 input)) 40 0 ≡ 10
    = rw end at (line_ended 4 numbers (column_of 4 (table_of four_columns 10 input))) in
    rw (sheet_is_lines four_columns 10 input w) at ended

pub one_edition : OneEdition
unfolding OneEdition SheetOf sheet_lines
one_edition input old new =
    let numbers = numbers_of six_columns 10 input in
    let ten : length numbers ≡ 10 = every_number six_columns 10 input new in
    let visible : 32 ≤ get_or (line_of 6 numbers ++ column_of 6 (table_of six_columns 10 input)) 40 0
    = line_visible 6 numbers (column_of 6 (table_of six_columns 10 input)) 40 (omega arith) in
    omega (arith, rw (sheet_is_lines six_columns 10 input new) at visible, feed_at_40 input old)
