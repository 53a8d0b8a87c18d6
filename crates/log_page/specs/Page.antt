-- The wall-cabinet page of a log. Numbers are right-justified in their columns; 32 is a space, and each line is ended by a line feed (10).
use Rattle.std.specs.Prelude.{◌≡◌, List, [], ◌∷◌, ◌++◌, map, ℕ, zero, suc, ◌+◌, ◌*◌, ◌-◌, ◌/◌, ◌<◌, length, get_or, take, drop, replicate}
use Rattle.table.specs.Balanced.{count_of}
use Rattle.field.specs.Printed.{printed}
use Rattle.lookup.specs.Entry.{kind_of, value_of, kind_limit}
use Rattle.log_print.specs.Lines.{line_of}

-- an entry takes 16 columns: position 6, kind 4, value 6
unfoldable pub entry_columns : (position entry : ℕ) → List ℕ
entry_columns position entry = printed 6 position ++ printed 4 (kind_of entry) ++ printed 6 (value_of entry)

-- entries side by side, the first of them at this position
unfoldable pub side_by_side : (position : ℕ) → (entries : List ℕ) → List ℕ
side_by_side position [] = []
side_by_side position (entry ∷ entries) = entry_columns position entry ++ side_by_side (position + 1) entries

-- so many spaces
abbrev pub blanks : (count : ℕ) → List ℕ
blanks count = replicate count 32

-- a line filled with spaces to so many columns, and its line feed
unfoldable pub filled : (columns : ℕ) → (line : List ℕ) → List ℕ
filled columns line = line ++ blanks (columns - length line) ++ (10 ∷ [])

-- what belongs to each number below a limit, rising
unfoldable pub rising : {A : Type 0} → (limit : ℕ) → (part : ℕ → List A) → List A
rising zero part = []
rising (suc k) part = rising k part ++ part k

-- so many entry lines, 80 columns wide, of five entries each: line k has those from position 5k on
unfoldable pub lines_of_five : (lines : ℕ) → (log : List ℕ) → List ℕ
lines_of_five lines log = rising lines (λ k. filled 80 (side_by_side (5 * k) (take 5 (drop (5 * k) log))))

-- how many lines so many entries take, five a line
abbrev pub lines_needed : (entries : ℕ) → ℕ
lines_needed entries = (entries + 4) / 5

-- how often a kind stands in a log
unfoldable pub often : (kind : ℕ) → (log : List ℕ) → ℕ
often kind log = count_of kind (map kind_of log)

-- a kind in 6 columns, how often in 10; a kind that does not occur has no line
unfoldable pub kind_line : (kind times : ℕ) → List ℕ
kind_line kind zero = []
kind_line kind (suc k) = printed 6 kind ++ line_of 10 (suc k ∷ [])

-- a line for each kind below the limit that occurs
unfoldable pub kind_lines : (limit : ℕ) → (log : List ℕ) → List ℕ
kind_lines limit log = rising limit (λ kind. kind_line kind (often kind log))

-- six spaces and the total in 10
unfoldable pub total_line : (total : ℕ) → List ℕ
total_line total = blanks 6 ++ line_of 10 (total ∷ [])

-- the entry lines; below, the kinds; and the total
unfoldable pub page_of : (log : List ℕ) → List ℕ
page_of log = lines_of_five (lines_needed (length log)) log ++ kind_lines kind_limit log ++ total_line (length log)

-- HOW IT IS PRINTED
-- the counts of the kinds of a log
pub record KindsCounted (log counts : List ℕ) : Type 0 where
  pub counted : (kind : ℕ) → kind < kind_limit → get_or counts kind 0 ≡ often kind log
