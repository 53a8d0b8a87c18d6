-- `case_sheet::read` meets its contract.
use Rattle.case_sheet.proofs.Sheets.{sheet_refused, sheet_taken}
use Rattle.case_sheet.proofs.read.Goals as goal

pub returns-in_err-entries-clause-value : goal.returns-in_err-entries-clause-value
returns-in_err-entries-clause-value c = rw c.from_residual.ensures (search (sheet_refused, c.in_err-entries.was))

pub returns-clause-value : goal.returns-clause-value
returns-clause-value c = search (sheet_taken, c.in_ok-entries.was)
