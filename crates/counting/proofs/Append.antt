-- Widths that are appended: a choice of them is a choice of the first and one of the second, so what sees only one of the two is a factor.
use mathlib.Core.Path.{◌≡◌, refl, sym, ap, ◌∙◌}
use mathlib.Core.List.{List, [], ◌∷◌, ◌++◌}
use Prim.Native.Nat.{ℕ, zero, suc, ◌+◌, ◌*◌, ◌^◌, ◌≤◌}
use native.Mathlib.Nat.{add_assoc, zero-add, suc-add, mul_comm, le_trans}
use native.Mathlib.Omega.{arith}
use lib.ListN.{length, take, drop, take-append-drop}
use Rattle.counting.specs.Choice.{◌▸◌, over, width, Within, total}
use Rattle.counting.proofs.Choice.{within_none, within_more, within_first_mask, within_rest}
use Rattle.counting.proofs.Sum.{sum_ext, sum_times}
use Rattle.counting.proofs.Over.{over_ext}

-- so many masks of the first choice, and behind them the second
abbrev pub appended : (masks : ℕ) → (first second : ℕ → ℕ) → ℕ → ℕ
appended zero c d = d
appended (suc k) c d = c 0 ▸ appended k (λ i. c (suc i)) d

pub appended_behind : (masks : ℕ) (c d : ℕ → ℕ) (i : ℕ) → appended masks c d (masks + i) ≡ d i
appended_behind zero c d i = ap d (zero-add i)
appended_behind (suc k) c d i = rw suc-add (appended_behind k (λ j. c (suc j)) d i)

-- a choice within appended widths: its first masks alone are within the first, and those behind them within the second
pub within_first : (ws vs : List ℕ) (c : ℕ → ℕ) → Within (ws ++ vs) c → Within ws (appended (length ws) c (λ i. 0))
unfolding width
within_first [] vs c h = within_none
within_first (w ∷ ws) vs c h = within_more (h.each 0) (within_first ws vs (λ i. c (suc i)) (within_rest h))

pub within_behind : (ws vs : List ℕ) (c : ℕ → ℕ) → Within (ws ++ vs) c → Within vs (λ i. c (length ws + i))
within_behind [] vs c h = simp zero-add h
within_behind (w ∷ ws) vs c h = simp suc-add (within_behind ws vs (λ i. c (suc i)) (within_rest h))

-- and two choices that are within theirs are within both, one behind the other
pub within_both : (ws vs : List ℕ) (c d : ℕ → ℕ) → Within ws c → Within vs d → Within (ws ++ vs) (appended (length ws) c d)
within_both [] vs c d h k = k
within_both (w ∷ ws) vs c d h k = within_more (within_first_mask h) (within_both ws vs (λ i. c (suc i)) d (within_rest h) k)

pub over_append : (ws vs : List ℕ) (f : (ℕ → ℕ) → ℕ)
    → over (ws ++ vs) f ≡ over ws (λ c. over vs (λ d. f (appended (length ws) c d)))
unfolding over
over_append [] vs f = refl
over_append (w ∷ ws) vs f = sum_ext (2 ^ w) (λ r _. over_append ws vs (λ c. f (r ▸ c)))

-- a factor that no mask changes
over_times : (ws : List ℕ) (f : (ℕ → ℕ) → ℕ) (a : ℕ) → over ws (λ c. f c * a) ≡ over ws f * a
unfolding over
over_times [] f a = refl
over_times (w ∷ ws) f a = sum_ext (2 ^ w) (λ r _. over_times ws (λ c. f (r ▸ c)) a) ∙ sum_times (2 ^ w) _ a

-- two factors that see a choice each
pub over_apart : (ws vs : List ℕ) (f g : (ℕ → ℕ) → ℕ) → over ws (λ c. over vs (λ d. f c * g d)) ≡ over ws f * over vs g
over_apart ws vs f g =
    over_ext ws (λ c _. over_ext vs (λ d _. mul_comm (f c) (g d)) ∙ over_times vs g (f c) ∙ mul_comm (over vs g) (f c))
    ∙ over_times ws f (over vs g)

pub total_append : (ws vs : List ℕ) → total (ws ++ vs) ≡ total ws + total vs
unfolding total
total_append [] vs = sym (zero-add (total vs))
total_append (w ∷ ws) vs = ap (λ t. w + t) (total_append ws vs) ∙ sym (add_assoc w (total ws) (total vs))

-- some of the widths are no more than all together
pub total_front : (ws : List ℕ) (i : ℕ) → total (take i ws) ≤ total ws
total_front ws i =
    let parts : total (take i ws) + total (drop i ws) ≡ total ws
    = sym (total_append (take i ws) (drop i ws)) ∙ ap total (take-append-drop i ws) in
    omega (arith, parts)

pub width_most : (ws : List ℕ) (i : ℕ) → width ws i ≤ total ws
unfolding width total
width_most [] i = omega arith
width_most (w ∷ ws) zero = omega arith
width_most (w ∷ ws) (suc i) = le_trans (width_most ws i) (omega arith)
