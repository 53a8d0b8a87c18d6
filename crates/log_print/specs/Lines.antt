-- What the programs print: lines of numbers in columns, each line ended by a line feed (10). A log, an answer and a refusal have six columns
-- for a number, the counts of a count sheet eight, the figures of a page ten, and a sheet as many as its edition.
use Rattle.std.specs.Prelude.{List, [], ◌∷◌, ◌++◌, ℕ, zero, suc, ◌+◌, ◌*◌, take, drop}
use Rattle.field.specs.Printed.{printed}
use Rattle.lookup.specs.Entry.{kind_of, value_of}

unfoldable pub line_of : (columns : ℕ) → List ℕ → List ℕ
line_of columns [] = 10 ∷ []
line_of columns (number ∷ numbers) = printed columns number ++ line_of columns numbers

-- a line for each number
unfoldable pub column_of : (columns : ℕ) → List ℕ → List ℕ
column_of columns [] = []
column_of columns (number ∷ numbers) = line_of columns (number ∷ []) ++ column_of columns numbers

-- a line for each entry of a log: its position, its kind and its value
unfoldable pub entry_lines : (columns position : ℕ) → (entries : List ℕ) → List ℕ
entry_lines columns position [] = []
entry_lines columns position (entry ∷ entries) =
    line_of columns (position ∷ kind_of entry ∷ value_of entry ∷ []) ++ entry_lines columns (position + 1) entries

-- an accepted case: the log's lines, then refusal 0, the answer share and the count
unfoldable pub answer_lines : (columns : ℕ) → (entries : List ℕ) → (share count : ℕ) → List ℕ
answer_lines columns entries share count = entry_lines columns 0 entries ++ line_of columns (0 ∷ share ∷ count ∷ [])

-- so many lines of so many counts each: line u has those from u * side on
unfoldable pub count_lines : (lines side : ℕ) → (counts : List ℕ) → List ℕ
count_lines zero side counts = []
count_lines (suc u) side counts = count_lines u side counts ++ line_of 8 (take side (drop (u * side) counts))

-- these lines, or where something is refused its number alone
unfoldable pub unless_refused : (columns refusal : ℕ) → (lines : List ℕ) → List ℕ
unless_refused columns zero lines = lines
unless_refused columns (suc k) lines = line_of columns (suc k ∷ [])
