-- The choices of given widths by their numbers, 0 to 2^total - 1: the lowest bits of a number are the first mask, those above them the
-- second, and so on.
use Rattle.std.specs.Prelude.{List, [], ◌∷◌, ℕ, ◌/◌, ◌%◌, ◌^◌, get_or}

-- the masks of a number
unfoldable pub numbered : (widths : List ℕ) → (number : ℕ) → List ℕ
numbered [] k = []
numbered (w ∷ ws) k = k % 2 ^ w ∷ numbered ws (k / 2 ^ w)

-- a list of masks as a choice
unfoldable pub choice_of : (masks : List ℕ) → ℕ → ℕ
choice_of masks i = get_or masks i 0
