-- The list of a rule's values at 0, 1, .., k - 1.
use Rattle.std.specs.Prelude.{List, [], ◌∷◌, ℕ, zero, suc}

unfoldable pub tabulate : ℕ → (ℕ → ℕ) → List ℕ
tabulate zero rule = []
tabulate (suc k) rule = rule 0 ∷ tabulate k (λ i. rule (suc i))
