-- A case sheet: a case line of so many fields, ten for the bench and six for the counts, then at most 256 lines of one field, a table entry.
-- The edition says how many columns a field has and how large its number may be. Each line is ended by a line feed (10).
use Rattle.std.specs.Prelude.{Bool, true, false, ◌&&◌, not, cond, List, [], ◌∷◌, ℕ, zero, suc, ◌+◌, ◌*◌, eqb, length, get_or, take, drop, Option, Some, None}
use Rattle.lookup.specs.declared.Case.{Case}
use Rattle.field.specs.Field.{field_of}
use Rattle.case_sheet.specs.declared.Edition.{Edition}
use Rattle.case_sheet.specs.declared.Sheet.{Sheet}
use Rattle.case_sheet.specs.Edition.{six_columns}

-- the field in front; where it is a line, a line feed stands behind it
unfoldable pub item : Edition → (line : Bool) → List ℕ → Option ℕ
item edition line bytes =
    cond (line && not (eqb (get_or bytes edition.columns 0) 10)) None
    (field_of edition.columns edition.most (take edition.columns bytes))

-- the bytes of a field, with its line feed where it is a line
unfoldable pub size : Edition → (line : Bool) → ℕ
size edition line = cond line (edition.columns + 1) edition.columns

-- a number in front of others, or no number and so no others
unfoldable pub before : Option ℕ → List ℕ → List ℕ
before (Some value) values = value ∷ values
before None values = []

-- the numbers of the fields or lines in front, at most so many
unfoldable pub leading : Edition → (line : Bool) → (at_most : ℕ) → List ℕ → List ℕ
leading edition line zero bytes = []
leading edition line (suc k) bytes = before (item edition line bytes) (leading edition line k (drop (size edition line) bytes))

unfoldable pub numbers_of : Edition → (fields : ℕ) → List ℕ → List ℕ
numbers_of edition fields input = leading edition false fields input

unfoldable pub table_of : Edition → (fields : ℕ) → List ℕ → List ℕ
table_of edition fields input = leading edition true 256 (drop (edition.columns * fields + 1) input)

-- a number in each field, a line feed, table lines, and nothing behind them
unfoldable pub complete : Edition → (fields numbers entries : ℕ) → List ℕ → Bool
complete edition fields numbers entries input =
    eqb numbers fields && eqb (get_or input (edition.columns * fields) 0) 10
    && eqb (edition.columns * fields + 1 + (edition.columns + 1) * entries) (length input)

unfoldable pub well_formed : Edition → (fields : ℕ) → List ℕ → Bool
well_formed edition fields input =
    complete edition fields (length (numbers_of edition fields input)) (length (table_of edition fields input)) input

-- how many table lines the input has, if it is not malformed
unfoldable pub lines_of : Edition → (fields : ℕ) → List ℕ → Option ℕ
lines_of edition fields input = cond (well_formed edition fields input) (Some (length (table_of edition fields input))) None

-- the numbers of the bench's case line in their order
unfoldable pub case_read : List ℕ → Case
case_read numbers =
    record {
      method = get_or numbers 0 0;
      n = get_or numbers 1 0;
      m = get_or numbers 2 0;
      x0 = get_or numbers 3 0;
      r1 = get_or numbers 4 0;
      r2 = get_or numbers 5 0;
      s1 = get_or numbers 6 0;
      s2 = get_or numbers 7 0;
      r3 = get_or numbers 8 0;
      b = get_or numbers 9 0;
    }

-- the bench reads six columns; there is no sheet where the input is malformed
unfoldable pub sheet_of : List ℕ → Option Sheet
sheet_of input =
    cond (well_formed six_columns 10 input)
    (Some (record { case = case_read (numbers_of six_columns 10 input); entries = length (table_of six_columns 10 input) })) None
