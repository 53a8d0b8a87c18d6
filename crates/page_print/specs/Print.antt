-- The page that answers a sheet of six columns: that of its log, or the number of a refusal alone, in six columns.
use Rattle.std.specs.Prelude.{List, ℕ}
use Rattle.case_sheet.specs.Edition.{six_columns}
use Rattle.log_print.specs.Lines.{unless_refused}
use Rattle.log_page.specs.Page.{page_of}
use Rattle.sheet_call.specs.Call.{sheet_refusal, sheet_log}

unfoldable pub page : (input : List ℕ) → List ℕ
page input = unless_refused 6 (sheet_refusal six_columns input) (page_of (sheet_log six_columns input))
