-- Searches that compute: each takes a test, and stops where it is decided, because what a `let` binds is computed only where it is read.
use Rattle.std.specs.Prelude.{Bool, true, false, ◌&&◌, ◌||◌, List, [], ◌∷◌, ℕ, suc, eqb}

-- a test of some shift, which says of each mask whether it is shifted, and shifts only masks of the class; that which shifts none comes first
unfoldable pub some_shift : (class : ℕ) → (masks : List ℕ) → (List Bool → Bool) → Bool
some_shift class [] test = test []
some_shift class (k ∷ ks) test =
    let kept = some_shift class ks (λ shift. test (false ∷ shift)) in
    let shifted = some_shift class ks (λ shift. test (true ∷ shift)) in
    let allowed = eqb k class && shifted in
    kept || allowed

-- a test of some number of a list, or of each, by its place and class
unfoldable pub some_place : (classes : List ℕ) → (ℕ → ℕ → Bool) → Bool
some_place [] test = false
some_place (k ∷ ks) test =
    let later = some_place ks (λ i. test (suc i)) in
    test 0 k || later

unfoldable pub each_place : (classes : List ℕ) → (ℕ → ℕ → Bool) → Bool
each_place [] test = true
each_place (k ∷ ks) test =
    let later = each_place ks (λ i. test (suc i)) in
    test 0 k && later

unfoldable pub every : {A : Type 0} → (A → Bool) → List A → Bool
every test [] = true
every test (x ∷ xs) = test x && every test xs
