-- One number of a choice changed: what stands at each place then, and that the choice stays within its widths.
use mathlib.Core.Path.{◌≡◌, refl}
use mathlib.Core.Bool.{Bool, true, false, cond}
use mathlib.Core.List.{List}
use Prim.Native.Nat.{ℕ, zero, suc, ◌^◌, ◌<◌}
use borrow.Author.Tests.{eqb-true}
use lib.Dec.{eqb, eqb-zero-suc, eqb-suc-zero, eqb-suc-suc}
use Rattle.counting.specs.Choice.{width, Within, change}

pub changed : (i v : ℕ) (c : ℕ → ℕ) (k : ℕ) → change i v c k ≡ cond (eqb k i) v (c k)
changed zero v c zero = refl
changed zero v c (suc k) = rw (eqb-suc-zero k)
changed (suc i) v c zero = rw (eqb-zero-suc i)
changed (suc i) v c (suc k) = rw (eqb-suc-suc k i) (changed i v (λ j. c (suc j)) k)

pub within_change : {ws : List ℕ} (i : ℕ) {v : ℕ} {c : ℕ → ℕ} → v < 2 ^ width ws i → Within ws c → Within ws (change i v c)
within_change {ws} i {v} {c} h within = record { each = λ k. rw (changed i v c k) (within_change_by_cases k (eqb k i) refl) }
  where
    within_change_by_cases : (k : ℕ) (same : Bool) → eqb k i ≡ same → cond same v (c k) < 2 ^ width ws k
    within_change_by_cases k true e = rw (eqb-true k i e) h
    within_change_by_cases k false e = within.each k
