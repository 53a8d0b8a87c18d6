-- What stands there after a call that has told its number.
use mathlib.Core.Path.{◌≡◌, refl}
use Prim.Native.Nat.{ℕ, zero, suc}
use Rattle.refusals.specs.Left.{left}

pub left_refused : {A : Type 0} (j k : ℕ) (new old : A) → j ≡ k → (j ≡ 0 → ⊥) → old ≡ left k new old
unfolding left
left_refused zero k new old e h = absurd (h refl)
left_refused (suc j) k new old e h = rw (← e)

pub left_accepted : {A : Type 0} (j k : ℕ) (new old : A) → j ≡ k → j ≡ 0 → new ≡ left k new old
unfolding left
left_accepted j k new old e z = rw (← e, z)

-- two calls that tell the same number, and put the same there where it is 0
pub left_alike : {A : Type 0} (j k : ℕ) (new new' old : A) → j ≡ k → (j ≡ 0 → new ≡ new') → left j new old ≡ left k new' old
unfolding left
left_alike zero k new new' old e h = rw (← e) (h refl)
left_alike (suc j) k new new' old e h = rw (← e)
