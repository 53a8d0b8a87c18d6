-- What is promised of the page that answers a sheet. Each is a type; its proof stands in proofs/Promises.antt.
use Rattle.std.specs.Prelude.{◌≡◌, List, ℕ, ◌≤◌, length, take}
use Rattle.lookup.specs.Call.{log_of}
use Rattle.case_sheet.specs.Edition.{six_columns}
use Rattle.case_sheet.specs.Sheet.{table_of}
use Rattle.sheet_call.specs.Call.{sheet_case, sheet_refusal}
use Rattle.log_page.specs.Promises.{HasRoom}
use Rattle.log_page.specs.Reading.{text_lines, ended, entries_read, figures_read, shown_from, figures_of}
use Rattle.page_print.specs.Print.{page}

-- the log that a lookup of a sheet's case makes, step by step
abbrev pub step_log : (input : List ℕ) → List ℕ
step_log input = log_of (sheet_case six_columns input) (table_of six_columns 10 input)

-- every line ends with a line feed, a refusal's too
unfoldable pub PageEnded : Type 0
PageEnded = (input : List ℕ) → ended (text_lines (page input)) ≡ page input

-- a page has room for the log of every accepted sheet, so all that `log_page` promises of pages holds of its page
unfoldable pub SheetsHaveRoom : Type 0
SheetsHaveRoom = (input : List ℕ) → sheet_refusal six_columns input ≡ 0 → HasRoom (step_log input)

-- the entries that are read of an accepted sheet's page are those of the log, in step order
unfoldable pub PageShowsLog : Type 0
PageShowsLog =
    (input : List ℕ) → sheet_refusal six_columns input ≡ 0 → entries_read (text_lines (page input)) ≡ shown_from 0 (step_log input)

-- the figures below are those of the entries that it shows, the total last
unfoldable pub PageFigures : Type 0
PageFigures =
    (input : List ℕ) → sheet_refusal six_columns input ≡ 0
    → figures_read (text_lines (page input)) ≡ figures_of (entries_read (text_lines (page input)))

-- the longest page
unfoldable pub PageMost : Type 0
PageMost = (input : List ℕ) → length (page input) ≤ 37826

-- the first 4096 bytes of the input, which are all that the program reads, decide
unfoldable pub FrontPaged : Type 0
FrontPaged = (input : List ℕ) → page (take 4096 input) ≡ page input
