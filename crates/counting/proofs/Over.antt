-- The laws of sums over all choices of masks.
use mathlib.Core.Path.{◌≡◌, refl, sym, ap, fun_ext, ◌∙◌}
use mathlib.Core.List.{List, [], ◌∷◌}
use Prim.Native.Nat.{ℕ, zero, suc, ◌+◌, ◌^◌, ◌<◌}
use native.Mathlib.Nat.{zero-add, mul-zero}
use native.Mathlib.Omega.{arith}
use lib.Pow.{pow_pos, pow-add}
use Rattle.bits.specs.Xor.{◌⊕◌}
use Rattle.counting.specs.Sum.{sum}
use Rattle.counting.specs.Choice.{◌▸◌, over, width, Within, change, total}
use Rattle.counting.proofs.Sum.{sum_ext, sum_add, sum_const, sum_swap}
use Rattle.counting.proofs.Shift.{shift}
use Rattle.counting.proofs.Choice.{within_none, within_more, first_rest, change_same, change_at, change_twice}

-- equal terms make equal sums
pub over_ext : (ws : List ℕ) {f g : (ℕ → ℕ) → ℕ} → ((c : ℕ → ℕ) → Within ws c → f c ≡ g c) → over ws f ≡ over ws g
unfolding over
over_ext [] h = h (λ i. 0) within_none
over_ext (w ∷ ws) h = sum_ext (2 ^ w) (λ r l. over_ext ws (λ c k. h (r ▸ c) (within_more l k)))

pub over_add : (ws : List ℕ) (f g : (ℕ → ℕ) → ℕ) → over ws (λ c. f c + g c) ≡ over ws f + over ws g
unfolding over
over_add [] f g = refl
over_add (w ∷ ws) f g = sum_ext (2 ^ w) (λ r _. over_add ws (λ c. f (r ▸ c)) (λ c. g (r ▸ c))) ∙ sum_add (2 ^ w) _ _

-- a sum over choices and a finite sum change places
pub over_sum : (ws : List ℕ) (k : ℕ) (f : (ℕ → ℕ) → ℕ → ℕ) → over ws (λ c. sum k (λ r. f c r)) ≡ sum k (λ r. over ws (λ c. f c r))
unfolding over
over_sum [] k f = refl
over_sum (w ∷ ws) k f = sum_ext (2 ^ w) (λ r _. over_sum ws k (λ c. f (r ▸ c))) ∙ sum_swap (2 ^ w) k _

-- two sums over choices are equal if the sums over the mask at one place are, whatever the other masks
pub over_local : (ws : List ℕ) (i : ℕ) (f g : (ℕ → ℕ) → ℕ)
    → ((c : ℕ → ℕ) → Within ws c → sum (2 ^ width ws i) (λ r. f (change i r c)) ≡ sum (2 ^ width ws i) (λ r. g (change i r c)))
    → over ws f ≡ over ws g
unfolding over width sum
over_local [] i f g h = simp (change_same i (λ j. 0), zero-add) at (h (λ j. 0) within_none)
over_local (w ∷ ws) zero f g h =
    sym (over_sum ws (2 ^ w) (λ c r. f (r ▸ c)))
    ∙ over_ext ws (λ c k. h (0 ▸ c) (within_more (pow_pos w) k))
    ∙ over_sum ws (2 ^ w) (λ c r. g (r ▸ c))
over_local (w ∷ ws) (suc i) f g h =
    sum_ext (2 ^ w) (λ r l. over_local ws i (λ c. f (r ▸ c)) (λ c. g (r ▸ c)) (λ c k. h (r ▸ c) (within_more l k)))

-- Each mask's numbers are put in another order, which changes no sum over them. Past the widths there is only 0, and it stays.
abbrev pub Reorders : (width : ℕ) → (order : ℕ → ℕ) → Type 0
Reorders w order = (g : ℕ → ℕ) → sum (2 ^ w) (λ r. g (order r)) ≡ sum (2 ^ w) g

none_reordered : (order : ℕ → ℕ) → Reorders 0 order → order 0 ≡ 0
unfolding sum
none_reordered order h = omega (arith, h (λ r. r))

pub over_reordered : (ws : List ℕ) (f : (ℕ → ℕ) → ℕ) (orders : ℕ → ℕ → ℕ) → ((i : ℕ) → Reorders (width ws i) (orders i))
    → over ws (λ c. f (λ i. orders i (c i))) ≡ over ws f
unfolding over width
over_reordered [] f orders h = ap f (fun_ext (λ i. none_reordered (orders i) (h i)))
over_reordered (w ∷ ws) f orders h =
    sum_ext (2 ^ w) (λ r _. over_ext ws (λ c _. ap f (sym (first_rest (λ i. orders i ((r ▸ c) i)))))
    ∙ over_reordered ws (λ c. f (orders 0 r ▸ c)) (λ i. orders (suc i)) (λ i. h (suc i)))
    ∙ h 0 (λ r. over ws (λ c. f (r ▸ c)))

-- all masks shifted, each by a number of its width
pub over_shift : (ws : List ℕ) (f : (ℕ → ℕ) → ℕ) (d : ℕ → ℕ) → Within ws d → over ws (λ c. f (λ i. c i ⊕ d i)) ≡ over ws f
over_shift ws f d k = over_reordered ws f (λ i r. r ⊕ d i) (λ i g. shift (width ws i) g (k.each i))

-- one mask shifted
pub over_shift_one : (ws : List ℕ) (i : ℕ) (f : (ℕ → ℕ) → ℕ) {d : ℕ} → d < 2 ^ width ws i
    → over ws (λ c. f (change i (c i ⊕ d) c)) ≡ over ws f
over_shift_one ws i f {d} h =
    over_local ws i (λ c. f (change i (c i ⊕ d) c)) f (λ c k. simp (change_at, change_twice) (shift (width ws i) (λ r. f (change i r c)) h))

-- how many choices there are
pub choices : (ws : List ℕ) → over ws (λ c. 1) ≡ 2 ^ total ws
unfolding over total
choices [] = refl
choices (w ∷ ws) = sum_const (2 ^ w) _ ∙ rw (choices ws) (sym (pow-add 2 w (total ws)))

-- nothing adds up to nothing
pub over_none : (ws : List ℕ) → over ws (λ c. 0) ≡ 0
unfolding over
over_none [] = refl
over_none (w ∷ ws) = sum_ext (2 ^ w) (λ _ _. over_none ws) ∙ sum_const (2 ^ w) 0 ∙ mul-zero (2 ^ w)
