-- The print that answers a sheet.
use Rattle.std.specs.Prelude.{cond, List, [], ◌∷◌, ℕ, eqb}
use Rattle.lookup.specs.declared.Case.{Case}
use Rattle.lookup.specs.Call.{answer, log_of, log_length}
use Rattle.lookup.specs.Refusals.{case_refusal}
use Rattle.case_sheet.specs.declared.Edition.{Edition}
use Rattle.case_sheet.specs.Edition.{six_columns}
use Rattle.case_sheet.specs.Sheet.{numbers_of, table_of, well_formed, case_read}
use Rattle.log_print.specs.Lines.{line_of, answer_lines}

-- a refused case: its number alone. Scratch and log are lent long enough for any case, and the scratch as zeros, so 13, 19 and 14 are
-- never printed: only the case is refused. A table entry above 255 is 2^m or more for every m that 4 lets in, and so is 6 where none of 2 to 5 applies.
unfoldable pub reply : (columns : ℕ) → Case → (table : List ℕ) → List ℕ
reply columns c table =
    cond (eqb (case_refusal c table) 0) (answer_lines columns (log_of c table) (answer c table) (log_length c.method c.n))
    (line_of columns (case_refusal c table ∷ []))

-- what answers a sheet of an edition, in so many columns: 1 where the input is of another form
unfoldable pub print_in : Edition → (columns : ℕ) → (input : List ℕ) → List ℕ
print_in edition columns input =
    cond (well_formed edition 10 input) (reply columns (case_read (numbers_of edition 10 input)) (table_of edition 10 input))
    (line_of columns (1 ∷ []))

-- the whole output: a sheet of six columns is answered in six
unfoldable pub print : (input : List ℕ) → List ℕ
print input = print_in six_columns 6 input
