-- The laws of choices: which lie within their widths, and what changing one mask does.
use mathlib.Core.Path.{◌≡◌, refl, ap, fun_ext, ◌∙◌}
use mathlib.Core.List.{List, [], ◌∷◌}
use Prim.Native.Nat.{ℕ, zero, suc, ◌^◌, ◌<◌}
use lib.Dec.{lit<}
use Rattle.counting.specs.Choice.{◌▸◌, width, Within, change}

-- the choice of no masks, and one more mask before a choice
pub within_none : Within [] (λ i. 0)
unfolding width
within_none = record { each = λ i. lit< tt }

pub within_more : {w : ℕ} {ws : List ℕ} {r : ℕ} {c : ℕ → ℕ} → r < 2 ^ w → Within ws c → Within (w ∷ ws) (r ▸ c)
unfolding width
within_more h k = record { each = elim [ zero ↦ h | suc i ↦ k.each i ] }

pub within_first_mask : {w : ℕ} {ws : List ℕ} {c : ℕ → ℕ} → Within (w ∷ ws) c → c 0 < 2 ^ w
unfolding width
within_first_mask k = k.each 0

pub within_rest : {w : ℕ} {ws : List ℕ} {c : ℕ → ℕ} → Within (w ∷ ws) c → Within ws (λ i. c (suc i))
unfolding width
within_rest k = record { each = λ i. k.each (suc i) }

-- a choice is its first mask and the rest
pub first_rest : (c : ℕ → ℕ) → c 0 ▸ (λ i. c (suc i)) ≡ c
first_rest c = fun_ext (elim [ zero ↦ refl | suc i ↦ refl ])

-- a mask changed to what it was
pub change_same : (i : ℕ) (c : ℕ → ℕ) → change i (c i) c ≡ c
change_same zero c = first_rest c
change_same (suc i) c = ap (λ rest. c 0 ▸ rest) (change_same i (λ j. c (suc j))) ∙ first_rest c

-- the changed mask
pub change_at : (i v : ℕ) (c : ℕ → ℕ) → change i v c i ≡ v
change_at zero v c = refl
change_at (suc i) v c = change_at i v (λ j. c (suc j))

-- of two changes at one place the later counts
pub change_twice : (i v u : ℕ) (c : ℕ → ℕ) → change i v (change i u c) ≡ change i v c
change_twice zero v u c = refl
change_twice (suc i) v u c = ap (λ rest. c 0 ▸ rest) (change_twice i v u (λ j. c (suc j)))
