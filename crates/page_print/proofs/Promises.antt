-- What is read of the page that answers a sheet, the longest page, and what of the input decides: promises of specs/Promises.antt, proved.
use mathlib.Core.Path.{◌≡◌, ap, ◌∙◌}
use mathlib.Core.List.{List}
use Prim.Native.Nat.{ℕ, zero, suc}
use native.Mathlib.Omega.{arith}
use Rattle.field.specs.Printed.{printed}
use Rattle.case_sheet.specs.Edition.{six_columns}
use Rattle.log_print.specs.Lines.{line_of, unless_refused}
use Rattle.log_print.proofs.Refused.{nothing_refused, where_accepted, unless_refused_most}
use Rattle.log_page.specs.Page.{page_of}
use Rattle.log_page.specs.Reading.{text_lines, ended}
use Rattle.log_page.specs.Promises.{LinesEnded, EntriesShown, FiguresRight}
use Rattle.log_page.proofs.Splitting.{printed_plain, whole_line, whole_split}
use Rattle.log_page.proofs.Pages.{page_few}
use Rattle.log_page.proofs.Promises.{lines_ended, entries_shown, figures_right}
use Rattle.sheet_call.specs.Call.{sheet_refusal, sheet_log}
use Rattle.sheet_call.specs.Promises.{LogMost, FrontAsked}
use Rattle.sheet_call.proofs.Promises.{log_most, front_asked}
use Rattle.page_print.specs.Print.{page}
use Rattle.page_print.specs.Promises.{PageEnded, SheetsHaveRoom, PageShowsLog, PageFigures, PageMost, FrontPaged}
use Rattle.page_print.proofs.Prints.{kinds_below, kinds_above}

pub sheets_have_room : SheetsHaveRoom
unfolding SheetsHaveRoom LogMost sheet_log
sheets_have_room input e =
    record { few = omega (arith, (log_most input e).0, (log_most input e).1); known = kinds_below input e 30 (omega arith) }

is_page : (input : List ℕ) → sheet_refusal six_columns input ≡ 0 → page input ≡ page_of (sheet_log six_columns input)
unfolding page
is_page input e = nothing_refused 6 (sheet_refusal six_columns input) _ e

-- a refusal is a line
refusal_ended : (refusal : ℕ) (lines : List ℕ) → ended (text_lines lines) ≡ lines
    → ended (text_lines (unless_refused 6 refusal lines)) ≡ unless_refused 6 refusal lines
unfolding unless_refused line_of
refusal_ended zero lines h = h
refusal_ended (suc k) lines h =
    let line = whole_line (printed 6 (suc k)) (printed_plain 6 (suc k)) in
    ap ended (whole_split line) ∙ line.joined

pub page_ended : PageEnded
unfolding PageEnded LinesEnded page
page_ended input = refusal_ended (sheet_refusal six_columns input) _ (lines_ended (sheet_log six_columns input))

pub page_shows_log : PageShowsLog
unfolding PageShowsLog SheetsHaveRoom EntriesShown sheet_log
page_shows_log input e = rw (is_page input e) (entries_shown (sheet_log six_columns input) (sheets_have_room input e))

pub page_figures : PageFigures
unfolding PageFigures SheetsHaveRoom FiguresRight sheet_log
page_figures input e = rw (is_page input e) (figures_right (sheet_log six_columns input) (sheets_have_room input e))

pub page_most : PageMost
unfolding PageMost LogMost page
page_most input =
    unless_refused_most 37826 (sheet_refusal six_columns input) _ (omega arith)
    (λ e.
    page_few (sheet_log six_columns input) (omega (arith, (log_most input e).0, (log_most input e).1)) (kinds_below input e 19 (omega arith))
    (kinds_above input e))

pub front_paged : FrontPaged
unfolding FrontPaged FrontAsked page
front_paged input =
    let front = front_asked input in
    rw front.0 (where_accepted 6 (sheet_refusal six_columns input) (λ e. rw (front.1 e)))
