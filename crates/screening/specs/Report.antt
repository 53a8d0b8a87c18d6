-- Which windows of a run of bytes are faulty, and the report on a run. All of it is about the list of bytes alone.
use Rattle.std.specs.Prelude.{Bool, false, ◌||◌, cond, Option, Some, None, List, [], ◌∷◌, ℕ, zero, suc, ◌-◌, ltb, length, take, drop}
use Rattle.table.specs.Balanced.{count_of}

-- the window that starts there: 512 consecutive bytes, or the whole run where it is shorter
unfoldable pub window : (run : List ℕ) → (start : ℕ) → List ℕ
window run start = take 512 (drop start run)

-- how many windows a run has: an empty one none, one shorter than 512 bytes one, any other one for each start with 512 bytes from there on
unfoldable pub windows : List ℕ → ℕ
windows [] = 0
windows (byte ∷ run) = suc (length (byte ∷ run) - 512)

-- some number below the limit passes the test
unfoldable pub some_below : (limit : ℕ) → (test : ℕ → Bool) → Bool
some_below zero test = false
some_below (suc k) test = some_below k test || test k

-- some byte value stands there more than 20 times
unfoldable pub faulty : List ℕ → Bool
faulty bytes = some_below 256 (λ value. ltb 20 (count_of value bytes))

-- a run is faulty if one of its windows is
unfoldable pub faulty_run : List ℕ → Bool
faulty_run run = some_below (windows run) (λ start. faulty (window run start))

-- the first of so many starts, beginning with this one, that passes the test, or none
unfoldable pub first_from : (start count : ℕ) → (test : ℕ → Bool) → Option ℕ
first_from start zero test = None
first_from start (suc k) test = cond (test start) (Some start) (first_from (suc start) k test)

-- the first faulty window's start, counted from 0, or none
unfoldable pub report : (run : List ℕ) → Option ℕ
report run = first_from 0 (windows run) (λ start. faulty (window run start))
