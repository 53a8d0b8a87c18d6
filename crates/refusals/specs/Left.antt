-- What stands where a call would put something new: the new where nothing is refused, else the old.
use Rattle.std.specs.Prelude.{ℕ, zero, suc}

unfoldable pub left : {A : Type 0} → (refusal : ℕ) → (new old : A) → A
left zero new old = new
left (suc k) new old = old
