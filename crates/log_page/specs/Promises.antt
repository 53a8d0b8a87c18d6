-- What is promised of a page: what is read of its bytes. Each is a type; its proof stands in proofs/Promises.antt.
use Rattle.std.specs.Prelude.{◌≡◌, false, List, map, ℕ, ◌*◌, ◌^◌, ◌≤◌, length}
use Rattle.counting.specs.Sum.{sum}
use Rattle.refusals.specs.Tests.{any_from}
use Rattle.lookup.specs.Entry.{kind_of, kind_limit}
use Rattle.log_page.specs.Page.{lines_needed, page_of}
use Rattle.log_page.specs.Reading.{text_lines, ended, entry_text, entries_read, figures_read}
use Rattle.log_page.specs.Reading.{shown_from, log_shown, times_shown, every_kind, figures_of}

-- every line ends with a line feed, the last too: the text is its lines
unfoldable pub LinesEnded : Type 0
LinesEnded = (log : List ℕ) → ended (text_lines (page_of log)) ≡ page_of log

-- the entry lines have five entries each: there are as few as that takes
unfoldable pub FiveALine : Type 0
FiveALine = (log : List ℕ) → length (entry_text (text_lines (page_of log))) ≡ 80 * lines_needed (length log)

-- a log that a page has room for: positions of up to six digits, and kinds below the limit
pub record HasRoom (log : List ℕ) : Type 0 where
  pub few : length log ≤ 10 ^ 6
  pub known : any_from kind_limit (map kind_of log) ≡ false

-- what the fields of 16 columns of the entry lines show: every position, kind and value, in order, and behind them spaces alone
unfoldable pub EntriesShown : Type 0
EntriesShown = (log : List ℕ) → HasRoom log → entries_read (text_lines (page_of log)) ≡ shown_from 0 log

-- that gives the log back
unfoldable pub LogBack : Type 0
LogBack = (log : List ℕ) → HasRoom log → log_shown (entries_read (text_lines (page_of log))) ≡ log

-- the lines below are the figures of the entries that are printed: one for each kind that occurs among them, rising, how often it does, and
-- none for another; then the total, as many as are printed
unfoldable pub FiguresRight : Type 0
FiguresRight =
    (log : List ℕ) → HasRoom log
    → figures_read (text_lines (page_of log)) ≡ figures_of (entries_read (text_lines (page_of log)))

-- the figures of the kinds add up to the total
unfoldable pub FiguresAddUp : Type 0
FiguresAddUp =
    (log : List ℕ) → HasRoom log
    → sum every_kind (λ kind. times_shown kind (entries_read (text_lines (page_of log))))
    ≡ length (entries_read (text_lines (page_of log)))
