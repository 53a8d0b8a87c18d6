-- The print of narrow log entries, of 16 bits. `PrintAsNarrow` in Promises.antt says that it is the print of today.
use Rattle.std.specs.Prelude.{cond, List, [], ◌∷◌, ◌++◌, ℕ, ◌+◌, eqb}
use Rattle.lookup.specs.declared.Case.{Case}
use Rattle.lookup.specs.NarrowEntry.{narrow_kind_of, narrow_value_of, narrow_log}
use Rattle.lookup.specs.Call.{answer, log_length}
use Rattle.lookup.specs.Refusals.{case_refusal}
use Rattle.case_sheet.specs.declared.Edition.{Edition}
use Rattle.case_sheet.specs.Sheet.{numbers_of, table_of, well_formed, case_read}
use Rattle.log_print.specs.Lines.{line_of}

unfoldable pub narrow_lines : (columns position : ℕ) → (entries : List ℕ) → List ℕ
narrow_lines columns position [] = []
narrow_lines columns position (entry ∷ entries) =
    line_of columns (position ∷ narrow_kind_of entry ∷ narrow_value_of entry ∷ []) ++ narrow_lines columns (position + 1) entries

unfoldable pub narrow_reply : (columns : ℕ) → Case → (table : List ℕ) → List ℕ
narrow_reply columns c table =
    cond (eqb (case_refusal c table) 0)
    (narrow_lines columns 0 (narrow_log c table) ++ line_of columns (0 ∷ answer c table ∷ log_length c.method c.n ∷ []))
    (line_of columns (case_refusal c table ∷ []))

unfoldable pub narrow_print_in : Edition → (columns : ℕ) → (input : List ℕ) → List ℕ
narrow_print_in edition columns input =
    cond (well_formed edition 10 input) (narrow_reply columns (case_read (numbers_of edition 10 input)) (table_of edition 10 input))
    (line_of columns (1 ∷ []))
