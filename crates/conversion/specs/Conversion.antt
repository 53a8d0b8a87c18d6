-- A case sheet carried over from one edition to another: every number and every line, in the columns of the edition that is written. Only the
-- form is looked at.
use Rattle.std.specs.Prelude.{not, cond, List, [], ◌∷◌, ◌++◌, ℕ, ◌+◌, eqb}
use Rattle.refusals.specs.Checks.{Check, ◌when◌, first_of}
use Rattle.refusals.specs.Tests.{any_from}
use Rattle.case_sheet.specs.declared.Edition.{Edition}
use Rattle.case_sheet.specs.Edition.{four_columns, six_columns}
use Rattle.case_sheet.specs.Sheet.{numbers_of, table_of, well_formed}
use Rattle.log_print.specs.Lines.{line_of, column_of}

-- a sheet's lines: its case line, then a line for each table entry
unfoldable pub sheet_lines : (columns : ℕ) → (numbers table : List ℕ) → List ℕ
sheet_lines columns numbers table = line_of columns numbers ++ column_of columns table

-- 1, no sheet of the edition that is read; 22, a number above the largest of the edition that is written
unfoldable pub conversion_checks : (from to : Edition) → (input : List ℕ) → List Check
conversion_checks from to input =
    1 when (not (well_formed from 10 input))
    ∷ 22 when (any_from (to.most + 1) (numbers_of from 10 input ++ table_of from 10 input))
    ∷ []

unfoldable pub conversion_refusal : (from to : Edition) → (input : List ℕ) → ℕ
conversion_refusal from to input = first_of (conversion_checks from to input)

-- a refusal is its number alone, in six columns whatever is written
unfoldable pub converted : (from to : Edition) → (input : List ℕ) → List ℕ
converted from to input =
    cond (eqb (conversion_refusal from to input) 0) (sheet_lines to.columns (numbers_of from 10 input) (table_of from 10 input))
    (line_of 6 (conversion_refusal from to input ∷ []))

-- each way
unfoldable pub to_six_columns : List ℕ → List ℕ
to_six_columns input = converted four_columns six_columns input

unfoldable pub to_four_columns : List ℕ → List ℕ
to_four_columns input = converted six_columns four_columns input
