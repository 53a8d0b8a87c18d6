-- The sum of a function's first values.
use Rattle.std.specs.Prelude.{ℕ, zero, suc, ◌+◌}

-- f 0 + f 1 + .. + f (limit - 1)
unfoldable pub sum : (limit : ℕ) → (ℕ → ℕ) → ℕ
sum zero f = 0
sum (suc k) f = sum k f + f k
