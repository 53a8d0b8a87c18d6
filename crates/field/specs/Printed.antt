-- A number printed in columns.
use Rattle.std.specs.Prelude.{cond, List, [], ◌∷◌, ◌++◌, ℕ, zero, suc, ◌+◌, ◌/◌, ◌%◌, eqb}

-- the last digit of what is left of a number, or a space where nothing is left
unfoldable pub mark : ℕ → ℕ
mark left = cond (eqb left 0) 32 (48 + left % 10)

-- what is left of a number, right-justified by spaces
unfoldable pub front : (columns left : ℕ) → List ℕ
front zero left = []
front (suc columns) left = front columns (left / 10) ++ (mark left ∷ [])

-- a number right-justified by spaces: its last digit stands there even where it is 0
unfoldable pub printed : (columns value : ℕ) → List ℕ
printed zero value = []
printed (suc columns) value = front columns (value / 10) ++ ((48 + value % 10) ∷ [])
