-- What two tests of Booleans say.
use mathlib.Core.Path.{◌≡◌, refl}
use mathlib.Core.Bool.{Bool, true, false, not, beq}
use lib.Dec.{T}

pub beq_same : (a b : Bool) → T (beq a b) → a ≡ b
beq_same true true t = refl
beq_same true false t = absurd t
beq_same false true t = absurd t
beq_same false false t = refl

pub not_false : (b : Bool) → T (not b) → b ≡ false
not_false true t = absurd t
not_false false t = refl
