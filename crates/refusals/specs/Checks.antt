-- Refusals: a call's checks as a list in their order, and the number that is handed back, the first that applies.
use Rattle.std.specs.Prelude.{Bool, cond, List, [], ◌∷◌, ℕ}

pub record Check : Type 0 where
  pub number : ℕ
  pub applies : Bool

infix 68 ◌when◌
-- a line of a call's list: its number, and when it applies. docs/REFERENCE.md has all numbers in words
abbrev pub ◌when◌ : ℕ → Bool → Check
number when test = record { number = number; applies = test }

-- the first that applies, or 0
unfoldable pub first_of : List Check → ℕ
first_of [] = 0
first_of (c ∷ cs) = cond c.applies c.number (first_of cs)
