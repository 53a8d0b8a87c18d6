-- Numbers above 255, the longest print, and how much of the input decides: promises of specs/Promises.antt and specs/Wide.antt, proved.
use mathlib.Core.Path.{◌≡◌, refl}
use mathlib.Core.Bool.{Bool, true, false, cond}
use mathlib.Core.List.{List, [], ◌∷◌}
use Prim.Native.Nat.{ℕ, ◌≤◌}
use native.Mathlib.Omega.{arith}
use borrow.Author.Tests.{eqb-true}
use lib.Dec.{eqb}
use lib.ListN.{length}
use Rattle.lookup.specs.declared.Case.{Case}
use Rattle.lookup.specs.Call.{answer, log_of, log_length}
use Rattle.lookup.specs.Refusals.{case_refusal}
use Rattle.lookup.specs.Promises.{LogLong}
use Rattle.lookup.proofs.Accepted.{accepted}
use Rattle.lookup.proofs.Sizes.{log_most}
use Rattle.lookup.proofs.Promises.{log_long}
use Rattle.case_sheet.specs.Edition.{six_columns}
use Rattle.case_sheet.proofs.Promises.{front_answers}
use Rattle.case_sheet.specs.Sheet.{numbers_of, table_of, well_formed, case_read}
use Rattle.log_print.specs.Lines.{line_of, answer_lines}
use Rattle.log_print.proofs.Lines.{line_long}
use Rattle.log_print.proofs.Entries.{answer_long}
use Rattle.sheet.specs.Print.{reply, print_in, print}
use Rattle.sheet.specs.Wide.{WideWorked}
use Rattle.sheet.specs.Promises.{WideRefused, WideEntry, PrintMost, FrontPrinted}
use Rattle.sheet_call.specs.Wide.{WideWorked as CallWideWorked}
use Rattle.sheet_call.specs.Promises.{WideRefused as CallWideRefused, WideEntry as CallWideEntry}
use Rattle.sheet_call.proofs.Promises.{wide_worked as call_wide_worked, wide_refused as call_wide_refused, wide_entry as call_wide_entry}

-- of the call of a sheet
pub wide_worked : WideWorked
unfolding WideWorked CallWideWorked
wide_worked = call_wide_worked

pub wide_refused : WideRefused
unfolding WideRefused CallWideRefused
wide_refused = call_wide_refused

pub wide_entry : WideEntry
unfolding WideEntry CallWideEntry
wide_entry = call_wide_entry

-- a reply has a line, or a line for each entry of the log and one more
reply_most : (c : Case) (table : List ℕ) → length (reply 6 c table) ≤ 43985
unfolding reply LogLong
reply_most c table = reply_most_by_cases (eqb (case_refusal c table) 0) refl
  where
    reply_most_by_cases : (t : Bool) → eqb (case_refusal c table) 0 ≡ t
        → length
        (cond t (answer_lines 6 (log_of c table) (answer c table) (log_length c.method c.n)) (line_of 6 (case_refusal c table ∷ [])))
        ≤ 43985
    reply_most_by_cases false e = omega (arith, line_long 6 (case_refusal c table ∷ []))
    reply_most_by_cases true e =
        let taken = accepted c table (eqb-true _ _ e) in
        let long = (log_long table c (eqb-true _ _ e)).0 in
        let most = log_most c.method c.n taken.0 taken.1.table.input_most in
        omega (arith, answer_long (log_of c table) (answer c table) (log_length c.method c.n), long, most)

pub print_most : PrintMost
unfolding PrintMost print print_in
print_most input = print_most_by_cases (well_formed six_columns 10 input)
  where
    print_most_by_cases : (t : Bool)
        → length (cond t (reply 6 (case_read (numbers_of six_columns 10 input)) (table_of six_columns 10 input)) (line_of 6 (1 ∷ []))) ≤ 43985
    print_most_by_cases true = reply_most _ _
    print_most_by_cases false = omega (arith, line_long 6 (1 ∷ []))

pub front_printed : FrontPrinted
unfolding FrontPrinted print print_in
front_printed input =
    front_answers six_columns 10 input (omega arith) (omega arith)
    (λ i. reply 6 (case_read (numbers_of six_columns 10 i)) (table_of six_columns 10 i)) (line_of 6 (1 ∷ []))
