-- The print that answers a probe sheet: a case sheet of six columns whose case line has six numbers.
use Rattle.std.specs.Prelude.{cond, List, [], ◌∷◌, ℕ, ◌^◌, eqb, get_or, replicate}
use Rattle.case_sheet.specs.Edition.{six_columns}
use Rattle.case_sheet.specs.Sheet.{numbers_of, table_of, well_formed}
use Rattle.log_print.specs.Lines.{line_of, count_lines}
use Rattle.count_sheet.specs.declared.ProbePair.{ProbePair}
use Rattle.count_sheet.specs.Refusals.{value_width, count_refusal}
use Rattle.count_sheet.specs.Sheet.{counts}

-- the case line's numbers in their order
unfoldable pub pair_read : List ℕ → ProbePair
pair_read numbers =
    record {
      method = get_or numbers 0 0;
      n = get_or numbers 1 0;
      m = get_or numbers 2 0;
      secret = get_or numbers 3 0;
      first = get_or numbers 4 0;
      second = get_or numbers 5 0;
    }

-- 512 bytes of scratch and 2400 entries of a log are lent, enough for any table that is let in, and 64 of a sheet, enough for n and m up to 3:
-- 13, 14 and 17 are never printed (`LentEnough`)
unfoldable pub print_refusal : ProbePair → (table : List ℕ) → ℕ
print_refusal p table = count_refusal p table (replicate 512 0) (replicate 2400 0) (replicate 64 0)

-- 2^k lines of 2^k counts: line u has those of u with v = 0, 1, ..; a refused case: its number alone
unfoldable pub reply : ProbePair → (table : List ℕ) → List ℕ
reply p table =
    cond (eqb (print_refusal p table) 0) (count_lines (2 ^ value_width p) (2 ^ value_width p) (counts table p))
    (line_of 6 (print_refusal p table ∷ []))

-- the whole output: 1 where the input is of another form
unfoldable pub print : (input : List ℕ) → List ℕ
print input =
    cond (well_formed six_columns 6 input) (reply (pair_read (numbers_of six_columns 6 input)) (table_of six_columns 6 input))
    (line_of 6 (1 ∷ []))
