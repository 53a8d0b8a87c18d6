-- Both calls that choose a half: their refusals in their order, what they hand back, and what they leave. Refused calls leave all as it was.
use Rattle.std.specs.Prelude.{List, [], ◌∷◌, ◌++◌, ℕ, zero, suc, ◌*◌, ◌^◌, ltb, length}
use Rattle.refusals.specs.Checks.{Check, ◌when◌, first_of}
use Rattle.refusals.specs.Tests.{outside, any_from}
use Rattle.refusals.specs.Left.{left}
use Rattle.buffers.specs.Written.{in_front}
use Rattle.halves.specs.declared.Selection.{Selection}
use Rattle.selection.specs.Selected.{Selected}
use Rattle.halves.specs.Halves.{share}
use Rattle.selection.specs.Log.{log_of}

-- a call's numbers
abbrev pub selection_from : (width z0 z1 z2 c0 c1 c2 t1 t2 b : ℕ) → Selection
selection_from width z0 z1 z2 c0 c1 c2 t1 t2 b =
    record { width = width; z0 = z0; z1 = z1; z2 = z2; c0 = c0; c1 = c1; c2 = c2; t1 = t1; t2 = t2; b = b }

-- 20
unfoldable pub width_checks : Selection → List Check
width_checks s = 20 when (outside 1 8 s.width) ∷ []

-- 21: of the word's shares, of the bit's and b, of the masks of a half
unfoldable pub word_checks : Selection → List Check
word_checks s = 21 when (any_from (2 ^ (2 * s.width)) (s.z0 ∷ s.z1 ∷ s.z2 ∷ [])) ∷ []

unfoldable pub bit_checks : Selection → List Check
bit_checks s = 21 when (any_from 2 (s.c0 ∷ s.c1 ∷ s.c2 ∷ s.b ∷ [])) ∷ []

unfoldable pub mask_checks : Selection → List Check
mask_checks s = 21 when (any_from (2 ^ s.width) (s.t1 ∷ s.t2 ∷ [])) ∷ []

unfoldable pub plain_select_refusal : Selection → ℕ
plain_select_refusal s = first_of (width_checks s ++ word_checks s ++ bit_checks s ++ mask_checks s)

-- and 14
unfoldable pub select_refusal : Selection → (lent : List ℕ) → ℕ
select_refusal s lent = first_of (width_checks s ++ word_checks s ++ bit_checks s ++ mask_checks s ++ 14 when (ltb (length lent) 28) ∷ [])

-- the shares and the count where nothing is refused, and zeros beside the number of a refusal
unfoldable pub selected : (refusal first second third : ℕ) → Selected
selected zero first second third = record { refusal = 0; first = first; second = second; third = third; count = 28 }
selected (suc k) first second third = record { refusal = suc k; first = 0; second = 0; third = 0; count = 0 }

-- the call with a log
unfoldable pub select_reply : Selection → (lent : List ℕ) → Selected
select_reply s lent = selected (select_refusal s lent) (share 0 s) (share 1 s) (share 2 s)

unfoldable pub select_log : Selection → (lent : List ℕ) → List ℕ
select_log s lent = left (select_refusal s lent) (in_front (log_of s) lent) lent

-- the call without one: what a lent place then holds
unfoldable pub plain_select_share : (pair : ℕ) → Selection → (old : ℕ) → ℕ
plain_select_share pair s old = left (plain_select_refusal s) (share pair s) old
