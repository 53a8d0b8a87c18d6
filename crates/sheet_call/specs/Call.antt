-- The call that a case sheet asks for: what refuses it, what it hands back, and its log.
use Rattle.std.specs.Prelude.{cond, List, ℕ}
use Rattle.refusals.specs.Left.{left}
use Rattle.buffers.specs.Written.{in_front}
use Rattle.lookup.specs.declared.Case.{Case}
use Rattle.lookup.specs.Called.{Called}
use Rattle.lookup.specs.Call.{answer, log_of, log_length}
use Rattle.lookup.specs.Refusals.{case_refusal}
use Rattle.calls.specs.Reply.{called}
use Rattle.case_sheet.specs.declared.Edition.{Edition}
use Rattle.case_sheet.specs.Edition.{six_columns}
use Rattle.case_sheet.specs.Sheet.{numbers_of, table_of, well_formed, case_read}

-- the case on a sheet of an edition
unfoldable pub sheet_case : Edition → (input : List ℕ) → Case
sheet_case edition input = case_read (numbers_of edition 10 input)

-- 1 where the input is of another form, else what refuses its case. Scratch and log are lent long enough for any case, and the scratch as
-- zeros, so 13, 19 and 14 never come. A table entry above 255 is 2^m or more for every m that 4 lets in, and so is 6 where none of 2 to 5
-- applies.
unfoldable pub sheet_refusal : Edition → (input : List ℕ) → ℕ
sheet_refusal edition input = cond (well_formed edition 10 input) (case_refusal (sheet_case edition input) (table_of edition 10 input)) 1

-- of an accepted case: its answer share, its log in step order, and how many entries that has
unfoldable pub sheet_answer : Edition → (input : List ℕ) → ℕ
sheet_answer edition input = answer (sheet_case edition input) (table_of edition 10 input)

unfoldable pub sheet_log : Edition → (input : List ℕ) → List ℕ
sheet_log edition input = log_of (sheet_case edition input) (table_of edition 10 input)

unfoldable pub sheet_count : Edition → (input : List ℕ) → ℕ
sheet_count edition input = log_length (sheet_case edition input).method (sheet_case edition input).n

-- what the call hands back, and what it leaves of a lent log. It reads six columns
unfoldable pub reply : (input : List ℕ) → Called
reply input = called (sheet_refusal six_columns input) (sheet_answer six_columns input) (sheet_count six_columns input)

unfoldable pub log_left : (input lent : List ℕ) → List ℕ
log_left input lent = left (sheet_refusal six_columns input) (in_front (sheet_log six_columns input) lent) lent
