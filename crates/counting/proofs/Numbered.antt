-- A sum over all choices is one over their numbers.
use mathlib.Core.Path.{◌≡◌, refl, sym, ap, fun_ext, ◌∙◌}
use mathlib.Core.List.{List, [], ◌∷◌, ◌++◌}
use Prim.Native.Nat.{ℕ, zero, suc, ◌+◌, ◌*◌, ◌/◌, ◌%◌, ◌^◌, ◌<◌}
use native.Mathlib.Nat.{zero-add, mod-lt, mul_comm, div-one}
use lib.Pow.{pow_pos, pow-add, shr-shr, high, low}
use Rattle.counting.specs.Sum.{sum}
use Rattle.counting.specs.Choice.{◌▸◌, over, Within, total}
use Rattle.counting.specs.Numbered.{numbered, choice_of}
use Rattle.counting.proofs.Sum.{sum_ext, sum_swap, sum_blocks}
use Rattle.counting.proofs.Choice.{within_none, within_more}

-- a list of masks as a choice: the first, and then the rest
first_of_list : (r : ℕ) (masks : List ℕ) → choice_of (r ∷ masks) ≡ r ▸ choice_of masks
unfolding choice_of
first_of_list r masks = fun_ext (elim [ zero ↦ refl | suc i ↦ refl ])

none_of_list : choice_of [] ≡ (λ i. 0)
unfolding choice_of
none_of_list = refl

-- a number's lowest bits and those above them
numbered_block : (w : ℕ) (ws : List ℕ) (k r : ℕ) → r < 2 ^ w → choice_of (numbered (w ∷ ws) (k * 2 ^ w + r)) ≡ r ▸ choice_of (numbered ws k)
unfolding numbered
numbered_block w ws k r h = rw (low k w h, high k w h) (first_of_list r (numbered ws k))

-- the masks of a number are within their widths
pub numbered_within : (ws : List ℕ) (k : ℕ) → Within ws (choice_of (numbered ws k))
unfolding numbered
numbered_within [] k = rw none_of_list within_none
numbered_within (w ∷ ws) k =
    rw (first_of_list _ (numbered ws (k / 2 ^ w))) (within_more (mod-lt k (pow_pos w)) (numbered_within ws (k / 2 ^ w)))

-- the masks of appended widths: the second take the bits above those of the first
pub numbered_append : (ws vs : List ℕ) (k : ℕ) → numbered (ws ++ vs) k ≡ numbered ws k ++ numbered vs (k / 2 ^ total ws)
unfolding numbered total
numbered_append [] vs k = ap (numbered vs) (sym (div-one k))
numbered_append (w ∷ ws) vs k =
    ap (λ l. k % 2 ^ w ∷ l)
    (numbered_append ws vs (k / 2 ^ w)
    ∙ ap (λ q. numbered ws (k / 2 ^ w) ++ numbered vs q) (shr-shr k w (total ws)))

pub over_numbered : (ws : List ℕ) (f : (ℕ → ℕ) → ℕ) → over ws f ≡ sum (2 ^ total ws) (λ k. f (choice_of (numbered ws k)))
unfolding over total sum numbered
over_numbered [] f = sym (zero-add _ ∙ ap f none_of_list)
over_numbered (w ∷ ws) f =
    sum_ext (2 ^ w) (λ r _. over_numbered ws (λ c. f (r ▸ c)))
    ∙ sum_swap (2 ^ w) (2 ^ total ws) (λ r k. f (r ▸ choice_of (numbered ws k)))
    ∙ sum_ext (2 ^ total ws) (λ k _. sum_ext (2 ^ w) (λ r h. ap f (sym (numbered_block w ws k r h))))
    ∙ sym (sum_blocks (2 ^ total ws) (2 ^ w) (λ k. f (choice_of (numbered (w ∷ ws) k))))
    ∙ ap (λ limit. sum limit (λ k. f (choice_of (numbered (w ∷ ws) k)))) (mul_comm (2 ^ total ws) (2 ^ w) ∙ sym (pow-add 2 w (total ws)))
