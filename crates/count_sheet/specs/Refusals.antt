-- Refusals of the count sheet, as lists in their order. The masks are its own and it clears the scratch itself, so 11, 12 and 19 are not
-- among them.
use Rattle.std.specs.Prelude.{not, List, [], ◌∷◌, ◌++◌, ℕ, max, ◌*◌, ◌^◌, ltb, leb, length}
use Rattle.refusals.specs.Checks.{Check, ◌when◌, first_of}
use Rattle.refusals.specs.Tests.{any_from}
use Rattle.table.specs.Refusals.{table_checks}
use Rattle.lookup.specs.Methods.{known}
use Rattle.lookup.specs.Call.{log_length, scratch_length}
use Rattle.count_sheet.specs.declared.ProbePair.{ProbePair}

-- k, the larger of n and m: every value of the log is below 2^k
unfoldable pub value_width : ProbePair → ℕ
value_width p = max p.n p.m

-- 2 to 7, and 10, the secret
unfoldable pub pair_checks : ProbePair → (table : List ℕ) → List Check
pair_checks p table = 2 when (not (known p.method)) ∷ table_checks p.n p.m table ++ 10 when (leb (2 ^ p.n) p.secret) ∷ []

-- 13, 14
unfoldable pub buffer_checks : ProbePair → (scratch log : List ℕ) → List Check
buffer_checks p scratch log =
    13 when (ltb (length scratch) (scratch_length p.method p.n)) ∷ 14 when (ltb (length log) (log_length p.method p.n)) ∷ []

-- 15, n or m above 3; 16, a position not below the log's length; 17, a sheet shorter than 2^(2k)
unfoldable pub sheet_checks : ProbePair → (sheet : List ℕ) → List Check
sheet_checks p sheet =
    15 when (any_from 4 (p.n ∷ p.m ∷ []))
    ∷ 16 when (any_from (log_length p.method p.n) (p.first ∷ p.second ∷ []))
    ∷ 17 when (ltb (length sheet) (2 ^ (2 * value_width p)))
    ∷ []

unfoldable pub count_refusal : ProbePair → (table scratch log sheet : List ℕ) → ℕ
count_refusal p table scratch log sheet = first_of (pair_checks p table ++ buffer_checks p scratch log ++ sheet_checks p sheet)
