-- How a log is laid out: the rows of a head, of passes over the table, and of an end. Each row of a pass is shown once a turn.
use Rattle.std.specs.Prelude.{List, [], ◌∷◌, ◌++◌, map, ℕ, zero, suc, ◌+◌, ◌*◌, length}

pub record Layout (A : Type 0) : Type 0 where
  pub head : List A
  pub passes : List (List A)
  pub end : List A

module _ {A B : Type 0} (show : (turn : ℕ) → A → B) where
  -- what a pass shows, for a from 0
  unfoldable pub pass_lines : (turns : ℕ) → (pass : List A) → List B
  pass_lines zero pass = []
  pass_lines (suc a) pass = pass_lines a pass ++ map (show a) pass

  unfoldable pub passes_lines : (turns : ℕ) → (passes : List (List A)) → List B
  passes_lines turns [] = []
  passes_lines turns (p ∷ ps) = pass_lines turns p ++ passes_lines turns ps

  -- the whole, with as many turns in each pass; head and end are shown once
  unfoldable pub lines : (turns : ℕ) → Layout A → List B
  lines turns l = map (show 0) l.head ++ passes_lines turns l.passes ++ map (show 0) l.end

-- the rows of all passes together
abbrev pub all_rows : {A : Type 0} → List (List A) → List A
all_rows [] = []
all_rows (p ∷ ps) = p ++ all_rows ps

-- how many lines that makes
abbrev pub layout_size : {A : Type 0} → (turns : ℕ) → Layout A → ℕ
layout_size turns l = length l.head + length (all_rows l.passes) * turns + length l.end
