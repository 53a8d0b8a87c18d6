-- A choice gives each mask, by its place, a number. Here are the choices of given widths, and the sum over all of them.
use Rattle.std.specs.Prelude.{List, [], ◌∷◌, ℕ, zero, suc, ◌+◌, ◌^◌, ◌<◌, get_or}
use Rattle.counting.specs.Sum.{sum}

-- r at place 0, and then the choice c
infixr 50 ◌▸◌
abbrev pub ◌▸◌ : ℕ → (ℕ → ℕ) → ℕ → ℕ
(r ▸ c) zero = r
(r ▸ c) (suc i) = c i

-- the sum of f over all choices of numbers of these widths, each choice once; past the widths each mask is 0
unfoldable pub over : (widths : List ℕ) → ((ℕ → ℕ) → ℕ) → ℕ
over [] f = f (λ i. 0)
over (w ∷ ws) f = sum (2 ^ w) (λ r. over ws (λ c. f (r ▸ c)))

-- the width at a place, 0 past the end
unfoldable pub width : List ℕ → ℕ → ℕ
width widths i = get_or widths i 0

-- each mask has its width
pub record Within (widths : List ℕ) (c : ℕ → ℕ) : Type 0 where
  pub each : (i : ℕ) → c i < 2 ^ width widths i

-- the choice c with the mask at one place changed
abbrev pub change : (place value : ℕ) → (ℕ → ℕ) → ℕ → ℕ
change zero v c = v ▸ (λ j. c (suc j))
change (suc i) v c = c 0 ▸ change i v (λ j. c (suc j))

-- the widths together
unfoldable pub total : List ℕ → ℕ
total [] = 0
total (w ∷ ws) = w + total ws
