-- The order of a chain's refusals in cases that compute: a chain of the tables 2, 0, 3, 1 and 0, 1, 1, 0 that is accepted, one of 0, 3 and
-- 0, 1, 1, 0, whose first m is above its n, chains with two faults each, and some under method 5. The numbers that are handed back stand in a
-- list behind them.
use Rattle.std.specs.Prelude.{◌≡◌, List, [], ◌∷◌, ◌++◌, ℕ, replicate}
use Rattle.lookup.specs.declared.Case.{Case}
use Rattle.calls.specs.Reply.{case_from}
use Rattle.chain.specs.declared.Second.{Second}
use Rattle.chain.specs.Lent.{lent}
use Rattle.chain.specs.Chain.{chain_refusal}

abbrev first : (r3 : ℕ) → Case
first r3 = case_from 2 2 2 0 1 2 3 0 r3 0

-- under method 5, which takes no r3
abbrev first_by_5 : (r3 : ℕ) → Case
first_by_5 r3 = case_from 5 2 2 0 1 2 3 0 r3 0

abbrev narrow : Case
narrow = case_from 2 1 2 0 1 0 3 1 1 0

abbrev second : (method n r3 : ℕ) → Second
second method n r3 = record { method = method; n = n; m = 1; s1 = 1; s2 = 0; r3 = r3; b = 0 }

abbrev S : List ℕ
S = 2 ∷ 0 ∷ 3 ∷ 1 ∷ []

abbrev T : List ℕ
T = 0 ∷ 1 ∷ 1 ∷ 0 ∷ []

abbrev zeros : List ℕ
zeros = replicate 4 0

abbrev dirty : List ℕ
dirty = 0 ∷ 0 ∷ 1 ∷ 0 ∷ []

-- scratch for method 5, and one whose second half is dirty
abbrev both_zero : List ℕ
both_zero = replicate 8 0

abbrev half_dirty : List ℕ
half_dirty = zeros ++ dirty

-- the number of a chain, by the lengths of its logs
abbrev refused : Case → Second → (S T scratch scratch' : List ℕ) → (log log' : ℕ) → ℕ
refused c d S T scratch scratch' log log' = chain_refusal c d (lent S T scratch scratch' (replicate log 0) (replicate log' 0))

unfoldable pub OrderWorked : Type 0
OrderWorked =
    refused (first 2) (second 2 2 1) S T zeros zeros 34 34
    ∷ refused narrow (second 2 2 1) (0 ∷ 3 ∷ []) T zeros zeros 34 34
    -- 18 though the first's n is the second's
    ∷ refused narrow (second 2 1 1) (0 ∷ 3 ∷ []) (0 ∷ 1 ∷ []) zeros zeros 34 34
    -- the first's 7 and the second's 2
    ∷ refused (first 2) (second 4 2 1) (2 ∷ 2 ∷ 3 ∷ 1 ∷ []) T zeros zeros 34 34
    -- the second's 7 and 18; 18 and the first's 10
    ∷ refused (first 2) (second 2 3 1) S (1 ∷ replicate 7 0) zeros zeros 34 34
    ∷ refused (first 4) (second 2 1 1) S (0 ∷ 1 ∷ []) zeros zeros 34 34
    -- the first's 10 and 19; its 19 and 14; its 14 and the second's 10
    ∷ refused (first 4) (second 2 2 1) S T dirty zeros 34 34
    ∷ refused (first 2) (second 2 2 1) S T dirty zeros 33 34
    ∷ refused (first 2) (second 2 2 4) S T zeros zeros 33 34
    -- the second's 10 and 13; its 13 and 14; its 19 and 14; its 14
    ∷ refused (first 2) (second 2 2 4) S T zeros (0 ∷ 0 ∷ 1 ∷ []) 34 34
    ∷ refused (first 2) (second 2 2 1) S T zeros (0 ∷ 0 ∷ 1 ∷ []) 34 33
    ∷ refused (first 2) (second 2 2 1) S T zeros dirty 34 33
    ∷ refused (first 2) (second 2 2 1) S T zeros zeros 34 33
    -- method 5 first, second, and in both places
    ∷ refused (first_by_5 0) (second 2 2 1) S T both_zero zeros 39 34
    ∷ refused (first 2) (second 5 2 0) S T zeros both_zero 34 39
    ∷ refused (first_by_5 0) (second 5 2 0) S T both_zero both_zero 39 39
    -- its 10 and 12 as the first's, and 12 before the second's 10; as the second's its 10 before 13, 12 before 13, then 13, 19 before 14, and 14
    ∷ refused (first_by_5 4) (second 5 2 1) S T both_zero both_zero 39 39
    ∷ refused (first_by_5 1) (second 5 2 4) S T both_zero both_zero 39 39
    ∷ refused (first_by_5 0) (second 5 2 4) S T both_zero zeros 39 39
    ∷ refused (first_by_5 0) (second 5 2 1) S T both_zero zeros 39 39
    ∷ refused (first_by_5 0) (second 5 2 0) S T both_zero zeros 39 39
    ∷ refused (first_by_5 0) (second 5 2 0) S T both_zero half_dirty 39 38
    ∷ refused (first_by_5 0) (second 5 2 0) S T both_zero both_zero 39 38
    ∷ []
    ≡ 0 ∷ 0 ∷ 18 ∷ 7 ∷ 7 ∷ 18 ∷ 10 ∷ 19 ∷ 14 ∷ 10 ∷ 13 ∷ 19 ∷ 14
    ∷ 0 ∷ 0 ∷ 0 ∷ 10 ∷ 12 ∷ 10 ∷ 12 ∷ 13 ∷ 19 ∷ 14 ∷ []
