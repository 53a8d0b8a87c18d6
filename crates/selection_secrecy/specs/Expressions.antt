-- The rows of a selection's log as expressions over its secrets, the word and the bit, and its masks: what the leak test reads.
use Rattle.std.specs.Prelude.{List, [], ◌∷◌, ◌++◌, ℕ, zero, suc, ◌*◌}
use Rattle.counting.specs.Choice.{◌▸◌}
use Rattle.probing.specs.Expression.{Expression, secret, mask, number, ◌⊞◌, half, System, Setting}

-- words are of class 0, bits of class 1, halves of class 2
abbrev pub class_width : (width class : ℕ) → ℕ
class_width l zero = 2 * l
class_width l (suc zero) = 1
class_width l (suc (suc zero)) = l
class_width l (suc (suc (suc k))) = 0

abbrev pub system : System
system =
    record { masks = 0 ∷ 0 ∷ 1 ∷ 1 ∷ 2 ∷ 2 ∷ 1 ∷ []; secrets = 0 ∷ 1 ∷ []; tables = []; flag = 1; word = 0; part = 2; bit = 1 }

abbrev pub setting : (width : ℕ) → Setting
setting l = record { width = class_width l; tables = λ t index. 0 }

abbrev pub secrets : (word bit : ℕ) → ℕ → ℕ
secrets z c = z ▸ c ▸ (λ j. 0)

abbrev pub z0 : Expression
z0 = secret 0 ⊞ mask 0 ⊞ mask 1

abbrev pub z1 : Expression
z1 = mask 0

abbrev pub z2 : Expression
z2 = mask 1

abbrev pub c : Expression
c = secret 1

abbrev pub c1 : Expression
c1 = mask 2

abbrev pub c2 : Expression
c2 = mask 3

abbrev pub c0 : Expression
c0 = c ⊞ c1 ⊞ c2

abbrev pub t1 : Expression
t1 = mask 4

abbrev pub t2 : Expression
t2 = mask 5

abbrev pub b : Expression
b = mask 6

-- 1 - c0 is c0 ⊕ 1
abbrev pub other : Expression
other = c0 ⊞ number 1 1

-- what is made of the half that a bit chooses
abbrev half_rows : (bit : Expression) → List Expression
half_rows s =
    half 2 s z0 ∷ half 2 s z0 ⊞ t1 ∷ half 2 s z1 ∷ half 2 s z1 ⊞ t2 ∷ half 2 s z2 ∷ half 2 s z2 ⊞ t1 ∷ half 2 s z2 ⊞ t1 ⊞ t2 ∷ []

abbrev pub rows : List Expression
rows =
    z0 ∷ z1 ∷ z2 ∷ c0 ∷ c1 ∷ c2 ∷ t1 ∷ t2 ∷ b ∷ c1 ⊞ b ∷ c1 ⊞ b ⊞ c2
    ∷ (half_rows c0 ++ half_rows other ++ (half 2 c z0 ⊞ t1 ∷ half 2 c z1 ⊞ t2 ∷ half 2 c z2 ⊞ t1 ⊞ t2 ∷ []))

-- what lies past the end of a log shows 0
abbrev pub nothing : Expression
nothing = number 1 0
