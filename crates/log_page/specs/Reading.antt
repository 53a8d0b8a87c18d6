-- How a page is read, from its bytes alone: what its entry lines show, and the figures below them.
use Rattle.std.specs.Prelude.{Bool, true, false, ◌&&◌, cond, List, [], ◌∷◌, ◌++◌, map, ℕ, zero, suc, ◌+◌, ◌-◌, ◌^◌, eqb, length, take, drop, Option, Some, None}
use Rattle.field.specs.Field.{field_of}
use Rattle.lookup.specs.Entry.{entry, kind_of, value_of}
use Rattle.log_page.specs.Page.{rising}

-- LINES
-- the lines of a text, without their line feeds: what was passed of the line, and what follows
unfoldable pub split : (passed text : List ℕ) → List (List ℕ)
split passed [] = []
split passed (byte ∷ bytes) = cond (eqb byte 10) (passed ∷ split [] bytes) (split (passed ++ (byte ∷ [])) bytes)

unfoldable pub text_lines : (text : List ℕ) → List (List ℕ)
text_lines text = split [] text

-- lines, each with its line feed
unfoldable pub ended : (lines : List (List ℕ)) → List ℕ
ended [] = []
ended (line ∷ lines) = line ++ (10 ∷ []) ++ ended lines

-- the lines in front that are 80 columns wide, side by side; and all lines below these
unfoldable pub entry_text : (lines : List (List ℕ)) → List ℕ
entry_text [] = []
entry_text (line ∷ lines) = cond (eqb (length line) 80) (line ++ entry_text lines) []

unfoldable pub lines_below : (lines : List (List ℕ)) → List (List ℕ)
lines_below [] = []
lines_below (line ∷ lines) = cond (eqb (length line) 80) (lines_below lines) (line ∷ lines)

-- CELLS
unfoldable pub blank : (bytes : List ℕ) → Bool
blank [] = true
blank (byte ∷ bytes) = eqb byte 32 && blank bytes

-- spaces alone, or a number that takes exactly so many columns, or what is neither
pub data Cell : Type 0 where
  Blank : Cell
  Holds : Option ℕ → Cell

unfoldable pub cell : (columns : ℕ) → (bytes : List ℕ) → Cell
cell columns bytes = cond (blank bytes) Blank (Holds (field_of columns (10 ^ columns - 1) bytes))

abbrev pub showing : (number : ℕ) → Cell
showing number = Holds (Some number)

-- ENTRIES
pub record Shown : Type 0 where
  pub position : Cell
  pub kind : Cell
  pub value : Cell

-- what 16 columns show: position 6, kind 4, value 6
unfoldable pub shown : (bytes : List ℕ) → Shown
shown bytes = record { position = cell 6 (take 6 bytes); kind = cell 4 (take 4 (drop 6 bytes)); value = cell 6 (drop 10 bytes) }

-- 16 columns after 16 columns, until all that follows is blank, and at most so many times
unfoldable pub entries_of : (at_most : ℕ) → (text : List ℕ) → List Shown
entries_of zero text = []
entries_of (suc k) text = cond (blank text) [] (shown (take 16 text) ∷ entries_of k (drop 16 text))

unfoldable pub entries_read : (lines : List (List ℕ)) → List Shown
entries_read lines = entries_of (length (entry_text lines)) (entry_text lines)

-- FIGURES
pub record Figure : Type 0 where
  pub kind : Cell
  pub times : Cell

-- what a line below shows: kind 6, how often 10
unfoldable pub figure : (line : List ℕ) → Figure
figure line = record { kind = cell 6 (take 6 line); times = cell 10 (drop 6 line) }

unfoldable pub figures_read : (lines : List (List ℕ)) → List Figure
figures_read lines = map figure (lines_below lines)

-- WHAT SHOULD BE READ
-- the entries of a log from a position on
unfoldable pub shown_from : (position : ℕ) → (log : List ℕ) → List Shown
shown_from position [] = []
shown_from position (e ∷ log) =
    record { position = showing position; kind = showing (kind_of e); value = showing (value_of e) } ∷ shown_from (position + 1) log

-- the log of entries that are shown
unfoldable pub number_of : Cell → ℕ
number_of Blank = 0
number_of (Holds (Some number)) = number
number_of (Holds None) = 0

unfoldable pub log_shown : (entries : List Shown) → List ℕ
log_shown entries = map (λ e. entry (number_of e.kind) (number_of e.value)) entries

-- a cell that has this number
unfoldable pub has_number : (number : ℕ) → Cell → Bool
has_number number Blank = false
has_number number (Holds (Some value)) = eqb value number
has_number number (Holds None) = false

-- how many of the entries that are shown have this kind
unfoldable pub times_shown : (kind : ℕ) → (entries : List Shown) → ℕ
times_shown kind [] = 0
times_shown kind (e ∷ entries) = cond (has_number kind e.kind) 1 0 + times_shown kind entries

-- the figure of a kind, if it is shown
unfoldable pub kind_figure : (kind times : ℕ) → List Figure
kind_figure kind zero = []
kind_figure kind (suc k) = record { kind = showing kind; times = showing (suc k) } ∷ []

-- all kinds that four columns can show
abbrev pub every_kind : ℕ
every_kind = 10 ^ 4

-- a figure for each kind that is shown, rising; then, where no kind stands, how many entries are shown
unfoldable pub figures_of : (entries : List Shown) → List Figure
figures_of entries =
    rising every_kind (λ kind. kind_figure kind (times_shown kind entries)) ++ (record { kind = Blank; times = showing (length entries) } ∷ [])
