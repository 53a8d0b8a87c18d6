-- The checks of a table and its widths, which several calls make in this order among their own.
use Rattle.std.specs.Prelude.{not, List, [], ◌∷◌, ℕ, ◌^◌, eqb, length}
use Rattle.refusals.specs.Checks.{Check, ◌when◌, first_of}
use Rattle.refusals.specs.Tests.{outside, any_from}
use Rattle.table.specs.Fit.{fit}

unfoldable pub table_checks : (n m : ℕ) → (table : List ℕ) → List Check
table_checks n m table =
    3 when (outside 1 8 n)
    ∷ 4 when (outside 1 8 m)
    ∷ 5 when (not (eqb (length table) (2 ^ n)))
    ∷ 6 when (any_from (2 ^ m) table)
    ∷ 7 when (not (fit n m table))
    ∷ []

unfoldable pub table_refusal : (n m : ℕ) → (table : List ℕ) → ℕ
table_refusal n m table = first_of (table_checks n m table)
