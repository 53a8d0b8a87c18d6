-- The numbers of one choice at the first n places, and those of another after them: from one choice to the other, one place at a time.
use mathlib.Core.Path.{◌≡◌, refl, ap, fun_ext, ◌∙◌}
use mathlib.Core.List.{List, [], ◌∷◌}
use Prim.Native.Nat.{ℕ, zero, suc, ◌^◌, ◌<◌}
use native.Mathlib.Omega.{arith}
use lib.ListN.{length}
use Rattle.counting.specs.Choice.{◌▸◌, width, Within, change}
use Rattle.counting.proofs.Choice.{within_rest, first_rest}

pub prefix : (n : ℕ) (new old : ℕ → ℕ) → ℕ → ℕ
prefix zero new old = old
prefix (suc n) new old = new 0 ▸ prefix n (λ i. new (suc i)) (λ i. old (suc i))

pub prefix_none : (new old : ℕ → ℕ) → prefix 0 new old ≡ old
unfolding prefix
prefix_none new old = refl

-- the next place is still old
pub prefix_at : (n : ℕ) (new old : ℕ → ℕ) → prefix n new old n ≡ old n
unfolding prefix
prefix_at zero new old = refl
prefix_at (suc n) new old = prefix_at n (λ i. new (suc i)) (λ i. old (suc i))

-- and changing it gives the next prefix
pub prefix_next : (n : ℕ) (new old : ℕ → ℕ) → change n (new n) (prefix n new old) ≡ prefix (suc n) new old
unfolding prefix
prefix_next zero new old = refl
prefix_next (suc n) new old = ap (λ rest. new 0 ▸ rest) (prefix_next n (λ i. new (suc i)) (λ i. old (suc i)))

pub prefix_within : {ws : List ℕ} (n : ℕ) {new old : ℕ → ℕ} → Within ws new → Within ws old → Within ws (prefix n new old)
unfolding prefix
prefix_within {ws} n {new} {old} h k = record { each = λ i. either (λ i x. x < 2 ^ width ws i) n h.each k.each i }
  where
    either : (P : ℕ → ℕ → Type 0) (n : ℕ) {new old : ℕ → ℕ} → ((i : ℕ) → P i (new i)) → ((i : ℕ) → P i (old i)) → (i : ℕ)
        → P i (prefix n new old i)
    either P zero h k i = k i
    either P (suc n) h k zero = h zero
    either P (suc n) h k (suc i) = either (λ i. P (suc i)) n (λ i. h (suc i)) (λ i. k (suc i)) i

-- past the widths both are 0
pub prefix_all : (ws : List ℕ) {new old : ℕ → ℕ} → Within ws new → Within ws old → prefix (length ws) new old ≡ new
unfolding prefix width
prefix_all [] h k = fun_ext (λ i. omega (arith, h.each i, k.each i))
prefix_all (w ∷ ws) {new} h k = ap (λ rest. new 0 ▸ rest) (prefix_all ws (within_rest h) (within_rest k)) ∙ first_rest new
