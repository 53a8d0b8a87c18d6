-- A table whose entries may be above 255. The calls take bytes, so a table with such an entry is refused before any call.
use Rattle.std.specs.Prelude.{Bool, not, cond, List, ◌∷◌, ℕ}
use Rattle.refusals.specs.Checks.{Check, ◌when◌, first_of}
use Rattle.refusals.specs.Tests.{any_from}
use Rattle.table.specs.Refusals.{table_checks}
use Rattle.lookup.specs.Methods.{known}

-- an entry does not fit a byte
unfoldable pub wide : (table : List ℕ) → Bool
wide table = any_from 256 table

-- 2 to 7
unfoldable pub method_and_table : (method n m : ℕ) → (table : List ℕ) → List Check
method_and_table method n m table = 2 when (not (known method)) ∷ table_checks n m table

-- the first that refuses a wide table: one of 2 to 6, since m is at most 8 where 4 does not refuse it; 0 of a table that is not wide
unfoldable pub wide_refusal : (method n m : ℕ) → (table : List ℕ) → ℕ
wide_refusal method n m table = cond (wide table) (first_of (method_and_table method n m table)) 0
