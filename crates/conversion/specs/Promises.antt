-- What is promised of sheets that are carried over. Each is a type; its proof stands in proofs/.
use Rattle.std.specs.Prelude.{◌≡◌, Bool, true, false, cond, List, ◌++◌, ℕ, ◌+◌, ◌^◌, ◌≤◌, ◌<◌, length, take}
use Rattle.refusals.specs.Tests.{any_from}
use Rattle.case_sheet.specs.declared.Edition.{Edition}
use Rattle.case_sheet.specs.Edition.{four_columns, six_columns}
use Rattle.case_sheet.specs.Sheet.{numbers_of, table_of, well_formed}
use Rattle.sheet.specs.Print.{print_in}
use Rattle.conversion.specs.Conversion.{sheet_lines, conversion_refusal, to_six_columns, to_four_columns}

-- SHEETS
-- a sheet of the edition
unfoldable pub SheetOf : Edition → List ℕ → Type 0
SheetOf edition input = well_formed edition 10 input ≡ true

-- a sheet of the edition with these ten numbers on its case line and this table
pub record HasNumbers (edition : Edition) (input numbers table : List ℕ) : Type 0 where
  pub sheet : SheetOf edition input
  pub numbers_are : numbers_of edition 10 input ≡ numbers
  pub table_is : table_of edition 10 input ≡ table

-- an edition whose largest number has room in its columns, as that of both has
pub record Legible (edition : Edition) : Type 0 where
  pub some : 0 < edition.columns
  pub room : edition.most < 10 ^ edition.columns

unfoldable pub EditionsLegible : Type 0
EditionsLegible = Legible four_columns × Legible six_columns

-- ten numbers and up to 256 entries, none too large, make a sheet that has them
unfoldable pub LinesRead : Type 0
LinesRead =
    (edition : Edition) (numbers table : List ℕ) → Legible edition → length numbers ≡ 10 → length table ≤ 256
    → any_from (edition.most + 1) (numbers ++ table) ≡ false → HasNumbers edition (sheet_lines edition.columns numbers table) numbers table

-- and there is no other sheet that has them
unfoldable pub SheetWritten : Type 0
SheetWritten =
    (edition : Edition) (input numbers table : List ℕ) → HasNumbers edition input numbers table
    → input ≡ sheet_lines edition.columns numbers table

-- no file is a sheet of both editions
unfoldable pub OneEdition : Type 0
OneEdition = (input : List ℕ) → SheetOf four_columns input → SheetOf six_columns input → ⊥

-- WHAT IS REFUSED
-- going to six columns, what is no sheet of four, and nothing else
unfoldable pub SixRefusal : Type 0
SixRefusal = (input : List ℕ) → conversion_refusal four_columns six_columns input ≡ cond (well_formed four_columns 10 input) 0 1

-- a number of a sheet of six columns is above 255
unfoldable pub above_255 : List ℕ → Bool
above_255 input = any_from 256 (numbers_of six_columns 10 input ++ table_of six_columns 10 input)

-- going to four columns: 1, then 22
unfoldable pub FourRefusal : Type 0
FourRefusal =
    (input : List ℕ) → conversion_refusal six_columns four_columns input
    ≡ cond (well_formed six_columns 10 input) (cond (above_255 input) 22 0) 1

-- THERE AND BACK
-- old to new and back gives the same file
unfoldable pub OldAndBack : Type 0
OldAndBack = (input : List ℕ) → SheetOf four_columns input → to_four_columns (to_six_columns input) ≡ input

-- new to old and back gives the same file where nothing is refused
unfoldable pub NewAndBack : Type 0
NewAndBack =
    (input : List ℕ) → conversion_refusal six_columns four_columns input ≡ 0 → to_six_columns (to_four_columns input) ≡ input

-- what a sheet is carried over to is a sheet with the same numbers
unfoldable pub SixNumbers : Type 0
SixNumbers =
    (input : List ℕ) → SheetOf four_columns input
    → HasNumbers six_columns (to_six_columns input) (numbers_of four_columns 10 input) (table_of four_columns 10 input)

unfoldable pub FourNumbers : Type 0
FourNumbers =
    (input : List ℕ) → conversion_refusal six_columns four_columns input ≡ 0
    → HasNumbers four_columns (to_four_columns input) (numbers_of six_columns 10 input) (table_of six_columns 10 input)

-- THE SAME REFUSAL OR THE SAME ANSWER
-- of every input of old, a sheet or not, and what it was carried over to, in however many columns
unfoldable pub SameAnswer : Type 0
SameAnswer =
    (columns : ℕ) (input : List ℕ) → print_in six_columns columns (to_six_columns input) ≡ print_in four_columns columns input

-- and of every input of today that is not refused with 22
unfoldable pub SameAnswerBack : Type 0
SameAnswerBack =
    (columns : ℕ) (input : List ℕ) → (conversion_refusal six_columns four_columns input ≡ 22 → ⊥)
    → print_in four_columns columns (to_four_columns input) ≡ print_in six_columns columns input

-- the first 4096 bytes of the input, which are all that the programs read, decide
unfoldable pub FrontConverted : Type 0
FrontConverted =
    (input : List ℕ) → (to_six_columns (take 4096 input) ≡ to_six_columns input) × (to_four_columns (take 4096 input) ≡ to_four_columns input)
