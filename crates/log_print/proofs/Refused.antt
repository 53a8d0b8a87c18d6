-- What is printed where something is refused, and where nothing is.
use mathlib.Core.Path.{◌≡◌, refl}
use mathlib.Core.List.{List, [], ◌∷◌}
use Prim.Native.Nat.{ℕ, zero, suc, ◌≤◌}
use lib.ListN.{length}
use Rattle.log_print.specs.Lines.{line_of, unless_refused}
use Rattle.log_print.proofs.Lines.{line_long}

pub number_alone : (columns k : ℕ) (lines : List ℕ) → (k ≡ 0 → ⊥) → line_of columns (k ∷ []) ≡ unless_refused columns k lines
unfolding unless_refused
number_alone columns zero lines h = absurd (h refl)
number_alone columns (suc k) lines h = refl

pub nothing_refused : (columns k : ℕ) (lines : List ℕ) → k ≡ 0 → unless_refused columns k lines ≡ lines
unfolding unless_refused
nothing_refused columns k lines z = rw z

-- what is printed of those that agree where nothing is refused agrees
pub where_accepted : (columns refusal : ℕ) {new old : List ℕ} → (refusal ≡ 0 → new ≡ old)
    → unless_refused columns refusal new ≡ unless_refused columns refusal old
unfolding unless_refused
where_accepted columns zero h = h refl
where_accepted columns (suc k) h = refl

-- a number is no longer than lines that may be this long
pub unless_refused_most : (most refusal : ℕ) (lines : List ℕ) → 7 ≤ most → (refusal ≡ 0 → length lines ≤ most)
    → length (unless_refused 6 refusal lines) ≤ most
unfolding unless_refused
unless_refused_most most zero lines room h = h refl
unless_refused_most most (suc k) lines room h = rw (line_long 6 (suc k ∷ [])) room
