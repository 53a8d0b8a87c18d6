-- What is promised of the count sheet. Each is a type; its proof stands in proofs/Promises.antt, that of the worked sheets in
-- proofs/Worked.antt.
use Rattle.std.specs.Prelude.{◌≡◌, List, [], ◌∷◌, ◌++◌, ℕ, ◌+◌, ◌*◌, ◌^◌, ◌≤◌, ◌<◌, length, take, drop, replicate}
use Rattle.counting.specs.Sum.{sum}
use Rattle.table.specs.Balanced.{at}
use Rattle.lookup.specs.Call.{log_length, scratch_length}
use Rattle.secrecy.specs.Count.{count}
use Rattle.count_sheet.specs.declared.ProbePair.{ProbePair}
use Rattle.count_sheet.specs.Refusals.{value_width, count_refusal}
use Rattle.count_sheet.specs.Sheet.{sheet_left, scratch_left, log_left}
use Rattle.count_sheet.specs.Runs.{Countable}

-- a pair that can be counted, on buffers that are long enough, is not refused, whatever these hold
unfoldable pub NothingElseRefused : Type 0
NothingElseRefused =
    (table scratch log sheet : List ℕ) (p : ProbePair) → Countable p table → scratch_length p.method p.n ≤ length scratch →
    log_length p.method p.n ≤ length log → 2 ^ (2 * value_width p) ≤ length sheet → count_refusal p table scratch log sheet ≡ 0

-- each entry of an accepted count is the count of the third demand: for values u and v it stands at u * 2^k + v
unfoldable pub EntryRight : Type 0
EntryRight =
    (table scratch log sheet : List ℕ) (p : ProbePair) (u v : ℕ) → count_refusal p table scratch log sheet ≡ 0 →
    u < 2 ^ value_width p → v < 2 ^ value_width p →
    at (sheet_left p table scratch log sheet) (u * 2 ^ value_width p + v)
    ≡ count table p.method p.n p.m p.secret p.first p.second u v

-- together they are as many as there are choices, 2^(3n + 2m) under method 2, twice as many under method 3, and 2^(2n + 2m) under method 5: no
-- run shows another value
unfoldable pub SumRight : Type 0
SumRight =
    (table scratch log sheet : List ℕ) (p : ProbePair) → count_refusal p table scratch log sheet ≡ 0 →
    (p.method ≡ 2 → sum (2 ^ (2 * value_width p)) (at (sheet_left p table scratch log sheet)) ≡ 2 ^ (3 * p.n + 2 * p.m))
    × (p.method ≡ 3 → sum (2 ^ (2 * value_width p)) (at (sheet_left p table scratch log sheet)) ≡ 2 * 2 ^ (3 * p.n + 2 * p.m))
    × (p.method ≡ 5 → sum (2 ^ (2 * value_width p)) (at (sheet_left p table scratch log sheet)) ≡ 2 ^ (2 * p.n + 2 * p.m))

-- none of them is above 65536, so each has room in 32 bits and in eight columns
unfoldable pub EntrySmall : Type 0
EntrySmall =
    (table scratch log sheet : List ℕ) (p : ProbePair) (i : ℕ) → count_refusal p table scratch log sheet ≡ 0 → i < 2 ^ (2 * value_width p) →
    at (sheet_left p table scratch log sheet) i ≤ 65536

-- the same probes with another secret
unfoldable pub with_secret : (secret : ℕ) → ProbePair → ProbePair
with_secret x p = record { method = p.method; n = p.n; m = p.m; secret = x; first = p.first; second = p.second }

-- for two secrets of the table's width the call returns the same number and leaves the same sheet, scratch and log. A table that is not
-- fit is refused for both; one that is, is counted for both where nothing else is at fault (`NothingElseRefused`)
unfoldable pub SecretsAlike : Type 0
SecretsAlike =
    (table scratch log sheet : List ℕ) (p : ProbePair) (x y : ℕ) → x < 2 ^ p.n → y < 2 ^ p.n →
    (count_refusal (with_secret x p) table scratch log sheet ≡ count_refusal (with_secret y p) table scratch log sheet)
    × (sheet_left (with_secret x p) table scratch log sheet ≡ sheet_left (with_secret y p) table scratch log sheet)
    × (scratch_left (with_secret x p) table scratch log sheet ≡ scratch_left (with_secret y p) table scratch log sheet)
    × (log_left (with_secret x p) table scratch log sheet ≡ log_left (with_secret y p) table scratch log sheet)

-- after an accepted count as many bytes of the scratch as the method needs (`LengthsRight` of `lookup`: 2^n, and twice as many under method 5)
-- and the log's entries below its length are zero
unfoldable pub ZerosLeft : Type 0
ZerosLeft =
    (table scratch log sheet : List ℕ) (p : ProbePair) → count_refusal p table scratch log sheet ≡ 0 →
    (take (scratch_length p.method p.n) (scratch_left p table scratch log sheet) ≡ replicate (scratch_length p.method p.n) 0)
    × (take (log_length p.method p.n) (log_left p table scratch log sheet) ≡ replicate (log_length p.method p.n) 0)

-- what stands behind them, and the sheet from entry 2^(2k) on, is unchanged
unfoldable pub RestKept : Type 0
RestKept =
    (table scratch log sheet : List ℕ) (p : ProbePair) → count_refusal p table scratch log sheet ≡ 0 →
    (drop (scratch_length p.method p.n) (scratch_left p table scratch log sheet) ≡ drop (scratch_length p.method p.n) scratch)
    × (drop (log_length p.method p.n) (log_left p table scratch log sheet) ≡ drop (log_length p.method p.n) log)
    × (drop (2 ^ (2 * value_width p)) (sheet_left p table scratch log sheet) ≡ drop (2 ^ (2 * value_width p)) sheet)

-- worked sheets for the table 1, 0 with n = m = 1, on a lent sheet of 9, 9, 9, 9, 7
abbrev pub worked : (method secret first second : ℕ) → List ℕ
worked method x i j =
    let p : ProbePair = record { method = method; n = 1; m = 1; secret = x; first = i; second = j } in
    sheet_left p (1 ∷ 0 ∷ []) (replicate 4 0) (replicate 28 0) (9 ∷ 9 ∷ 9 ∷ 9 ∷ 7 ∷ [])

-- P12 of the bench sheet: under method 2, positions 0 and 21 show each of the four pairs for 8 of 32 choices, for both secrets
unfoldable pub P12Right : Type 0
P12Right = (x : ℕ) → x < 2 → worked 2 x 0 21 ≡ 8 ∷ 8 ∷ 8 ∷ 8 ∷ 7 ∷ []

-- the table 0, 3, which has m above n, so k is m: x0, which is 0 or 1, beside the answer, which is 0 to 3
abbrev pub worked_wide : List ℕ
worked_wide =
    let p : ProbePair = record { method = 2; n = 1; m = 2; secret = 1; first = 0; second = 21 } in
    sheet_left p (0 ∷ 3 ∷ []) (replicate 2 0) (replicate 22 0) (replicate 16 9 ++ 7 ∷ [])

-- a turn's number, which is 0, beside x0, and x0 beside it; under method 3, b beside 1 - b; under method 5, r1 beside the table's entry for
-- it; and the wide one
unfoldable pub WorkedRight : Type 0
WorkedRight =
    (worked 2 0 8 0 ≡ 16 ∷ 16 ∷ 0 ∷ 0 ∷ 7 ∷ []) × (worked 2 0 0 8 ≡ 16 ∷ 0 ∷ 16 ∷ 0 ∷ 7 ∷ [])
    × (worked 3 0 5 7 ≡ 0 ∷ 32 ∷ 32 ∷ 0 ∷ 7 ∷ [])
    × (worked 5 0 6 7 ≡ 0 ∷ 8 ∷ 8 ∷ 0 ∷ 7 ∷ [])
    × (worked_wide ≡ replicate 8 16 ++ replicate 8 0 ++ 7 ∷ [])
