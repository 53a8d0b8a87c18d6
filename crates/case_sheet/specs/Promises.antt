-- What is promised of sheets. Each is a type; its proof stands in proofs/Promises.antt.
use Rattle.std.specs.Prelude.{◌≡◌, true, List, ℕ, ◌+◌, ◌*◌, ◌≤◌, length, take}
use Rattle.case_sheet.specs.declared.Edition.{Edition}
use Rattle.case_sheet.specs.Edition.{four_columns, six_columns}
use Rattle.case_sheet.specs.Sheet.{numbers_of, table_of, well_formed}

-- a sheet's length, by the number of its table lines. A case line of ten numbers has 60 characters in six columns, 40 in four
unfoldable pub SheetLong : Type 0
SheetLong =
    (edition : Edition) (fields : ℕ) (input : List ℕ) → well_formed edition fields input ≡ true
    → (length (numbers_of edition fields input) ≡ fields)
    × (length input ≡ edition.columns * fields + 1 + (edition.columns + 1) * length (table_of edition fields input))

-- the longest sheets with up to ten numbers on their case line: what is longer is of another form
unfoldable pub SheetMost : Type 0
SheetMost =
    (fields : ℕ) (input : List ℕ) → fields ≤ 10
    → (well_formed four_columns fields input ≡ true → length input ≤ 1321)
    × (well_formed six_columns fields input ≡ true → length input ≤ 1853)

-- so what a program reads at most, 4096 bytes, decides: cut to these, a sheet is whole, and what is no sheet does not become one
unfoldable pub FrontDecides : Type 0
FrontDecides =
    (edition : Edition) (fields : ℕ) (input : List ℕ) → edition.columns ≤ 6 → fields ≤ 10
    → (well_formed edition fields (take 4096 input) ≡ well_formed edition fields input)
    × (well_formed edition fields input ≡ true → take 4096 input ≡ input)
