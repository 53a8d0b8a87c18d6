-- Refusals of the logged and the plain call, as lists in their order.
use Rattle.std.specs.Prelude.{Bool, not, ◌||◌, List, [], ◌∷◌, ◌++◌, ℕ, ◌^◌, ltb, length, take}
use Rattle.refusals.specs.Checks.{Check, ◌when◌, first_of}
use Rattle.refusals.specs.Tests.{any_from}
use Rattle.table.specs.Refusals.{table_checks}
use Rattle.lookup.specs.declared.Case.{Case}
use Rattle.lookup.specs.Case.{Q}
use Rattle.lookup.specs.Methods.{known, method_of}
use Rattle.lookup.specs.Call.{log_length, scratch_length}

-- 2
unfoldable pub method_checks : Case → List Check
method_checks c = 2 when (not (known c.method)) ∷ []

-- an r3 or a b that the method does not take: under method 5 one that is not 0; under methods 2 and 3 a b above 0 or above 1, and no r3 that
-- has passed 10 (`UntakenRight` of Promises.antt)
unfoldable pub untaken : Case → Bool
untaken c = ltb ((method_of c.method).r3_most (Q c)) c.r3 || ltb (method_of c.method).b_most c.b

-- 10, 11, 12
unfoldable pub mask_checks : Case → List Check
mask_checks c =
    10 when (any_from (Q c) (c.x0 ∷ c.r1 ∷ c.r2 ∷ c.r3 ∷ []))
    ∷ 11 when (any_from (2 ^ c.m) (c.s1 ∷ c.s2 ∷ []))
    ∷ 12 when (untaken c)
    ∷ []

-- a byte among the first so many is not zero; those behind them are not looked at
unfoldable pub dirty : (first : ℕ) → (scratch : List ℕ) → Bool
dirty first scratch = any_from 1 (take first scratch)

-- 13, 19
unfoldable pub scratch_checks : Case → (scratch : List ℕ) → List Check
scratch_checks c scratch =
    13 when (ltb (length scratch) (scratch_length c.method c.n))
    ∷ 19 when (dirty (scratch_length c.method c.n) scratch)
    ∷ []

-- 14
unfoldable pub log_checks : Case → (lent : List ℕ) → List Check
log_checks c lent = 14 when (ltb (length lent) (log_length c.method c.n)) ∷ []

-- 2 to 7
unfoldable pub box_checks : Case → (table : List ℕ) → List Check
box_checks c table = method_checks c ++ table_checks c.n c.m table

-- a logged call's other checks: 10 to 13, 19, 14
unfoldable pub other_checks : Case → (scratch lent : List ℕ) → List Check
other_checks c scratch lent = mask_checks c ++ scratch_checks c scratch ++ log_checks c lent

-- what both calls check of their numbers and their table
unfoldable pub case_checks : Case → (table : List ℕ) → List Check
case_checks c table = box_checks c table ++ mask_checks c

unfoldable pub case_refusal : Case → (table : List ℕ) → ℕ
case_refusal c table = first_of (case_checks c table)

unfoldable pub plain_refusal : Case → (table scratch : List ℕ) → ℕ
plain_refusal c table scratch = first_of (case_checks c table ++ scratch_checks c scratch)

unfoldable pub logged_refusal : Case → (table scratch lent : List ℕ) → ℕ
logged_refusal c table scratch lent = first_of (case_checks c table ++ scratch_checks c scratch ++ log_checks c lent)
