-- A table is the list of its entries; here is when it is balanced.
use Rattle.std.specs.Prelude.{Bool, true, ◌&&◌, not, cond, List, [], ◌∷◌, ℕ, zero, suc, ◌+◌, ◌-◌, ◌^◌, eqb, length, get_or}
use Rattle.refusals.specs.Tests.{any_from}

-- the entry at a place, 0 past the end
unfoldable pub at : List ℕ → ℕ → ℕ
at table i = get_or table i 0

-- how often a value stands in a list
unfoldable pub count_of : (value : ℕ) → List ℕ → ℕ
count_of v [] = 0
count_of v (x ∷ xs) = cond (eqb x v) 1 0 + count_of v xs

-- every number below the limit passes the test
unfoldable pub all_below : (limit : ℕ) → (test : ℕ → Bool) → Bool
all_below zero test = true
all_below (suc k) test = all_below k test && test k

-- every value below the limit stands in the table this often
unfoldable pub each_often : (limit times : ℕ) → List ℕ → Bool
each_often limit times table = all_below limit (λ v. eqb (count_of v table) times)

-- 2^n entries, none of them 2^m or more, and each value below 2^m in exactly 2^(n - m) of them. Where m is above n no table is: 2^(n - m) is 1,
-- and there are more values than entries
unfoldable pub balanced : (n m : ℕ) → List ℕ → Bool
balanced n m table = eqb (length table) (2 ^ n) && not (any_from (2 ^ m) table) && each_often (2 ^ m) (2 ^ (n - m)) table
