-- A lookup's case is the struct of ten numbers that `src/lib.rt` declares: method, widths, first share, masks. Here is its number of
-- table entries.
use Rattle.std.specs.Prelude.{ℕ, ◌^◌}
use Rattle.lookup.specs.declared.Case.{Case}

-- Q, the number of table entries
unfoldable pub Q : Case → ℕ
Q c = 2 ^ c.n
