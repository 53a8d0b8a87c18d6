-- When a table is fit: the values that occur in it do so equally often, and they are closed under the ⊕ of three. It need not have every
-- value below 2^m, as a balanced one does.
use Rattle.std.specs.Prelude.{Bool, true, ◌&&◌, not, List, [], ◌∷◌, ℕ, ◌^◌, eqb, leb, length}
use Rattle.bits.specs.Xor.{◌⊕◌}
use Rattle.refusals.specs.Tests.{any_from}
use Rattle.table.specs.Balanced.{count_of}

unfoldable pub occurs : (value : ℕ) → (table : List ℕ) → Bool
occurs v table = leb 1 (count_of v table)

-- every value that occurs in the table passes the test
unfoldable pub each_value : (table : List ℕ) → (test : ℕ → Bool) → Bool
each_value [] test = true
each_value (v ∷ table) test = test v && each_value table test

-- all values that occur do so equally often
unfoldable pub equally_often : List ℕ → Bool
equally_often table = each_value table (λ u. each_value table (λ v. eqb (count_of u table) (count_of v table)))

-- the ⊕ of any three values that occur, repeats allowed, occurs as well
unfoldable pub closed : List ℕ → Bool
closed table = each_value table (λ u. each_value table (λ v. each_value table (λ w. occurs (u ⊕ v ⊕ w) table)))

-- 2^n entries, none of them 2^m or more, values equally often, and closed
unfoldable pub fit : (n m : ℕ) → List ℕ → Bool
fit n m table = eqb (length table) (2 ^ n) && not (any_from (2 ^ m) table) && equally_often table && closed table
