-- What the code makes of words' results is what the definitions make, and their places are the same numbers.
use mathlib.Core.Path.{◌≡◌}
use mathlib.Core.List.{List, [], ◌∷◌}
use Prim.Native.Nat.{ℕ, ◌+◌, ◌*◌}
use native.Mathlib.Omega.{arith}
use lib.ListN.{get_or}
use Rattle.table.specs.Balanced.{at}
use Rattle.aes.specs.State.{Word, State, four}
use Rattle.frame_lookups.specs.Shares.{Shares}
use Rattle.frame_lookups.specs.Lookups.{answered, word_answers, word_masks, column_answers, state_answers, state_masks}

-- the first of several places
pub first_place : (p step : ℕ) → p + step * 0 ≡ p
first_place p step = omega arith

pub word_masks_made : (random : List ℕ) (p : ℕ)
    → ◌≡◌ {A = Word} (get_or random p 0 ∷ get_or random (p + 3) 0 ∷ get_or random (p + 6) 0 ∷ get_or random (p + 9) 0 ∷ []) (word_masks random p)
unfolding word_masks four at
word_masks_made random p = rw (first_place p 3)

pub word_answers_made : (random : List ℕ) (p : ℕ) (u v w : Word) (a b c d : ℕ)
    → a ≡ answered random p (get_or u 0 0) (get_or v 0 0) (get_or w 0 0) → b ≡ answered random (p + 3) (get_or u 1 0) (get_or v 1 0) (get_or w 1 0)
    → c ≡ answered random (p + 6) (get_or u 2 0) (get_or v 2 0) (get_or w 2 0) → d ≡ answered random (p + 9) (get_or u 3 0) (get_or v 3 0) (get_or w 3 0)
    → ◌≡◌ {A = Word} (a ∷ b ∷ c ∷ d ∷ []) (word_answers random p u v w)
unfolding word_answers four at
word_answers_made random p u v w a b c d e f g h = rw (e, f, g, h, first_place p 3)

-- four columns, with twelve random bytes each
pub state_masks_made : (random : List ℕ) (p : ℕ) (a b c d : Word) → a ≡ word_masks random p → b ≡ word_masks random (p + 12)
    → c ≡ word_masks random (p + 24) → d ≡ word_masks random (p + 36)
    → ◌≡◌ {A = State} (a ∷ b ∷ c ∷ d ∷ []) (state_masks random p)
unfolding state_masks four
state_masks_made random p a b c d e f g h = rw (e, f, g, h, first_place p 12)

pub state_answers_made : (random : List ℕ) (p : ℕ) (s : Shares) (a b c d : Word) → a ≡ column_answers random p s 0
    → b ≡ column_answers random (p + 12) s 1 → c ≡ column_answers random (p + 24) s 2 → d ≡ column_answers random (p + 36) s 3
    → ◌≡◌ {A = State} (a ∷ b ∷ c ∷ d ∷ []) (state_answers random p s)
unfolding state_answers four
state_answers_made random p s a b c d e f g h = rw (e, f, g, h, first_place p 12)
