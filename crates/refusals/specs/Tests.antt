-- The tests that several refusals share.
use Rattle.std.specs.Prelude.{Bool, false, ◌||◌, List, [], ◌∷◌, ℕ, ltb, leb}

-- below the lowest or above the highest
unfoldable pub outside : (low high value : ℕ) → Bool
outside low high value = ltb value low || ltb high value

-- some number is the least or more
unfoldable pub any_from : (least : ℕ) → List ℕ → Bool
any_from least [] = false
any_from least (x ∷ xs) = leb least x || any_from least xs
