-- What is promised of the call that a sheet asks for. Each is a type; its proof stands in proofs/Promises.antt.
use Rattle.std.specs.Prelude.{◌≡◌, true, false, List, [], ◌∷◌, ℕ, ◌^◌, ◌≤◌, length, take}
use Rattle.buffers.specs.Written.{in_front}
use Rattle.refusals.specs.Tests.{outside, any_from}
use Rattle.lookup.specs.declared.Case.{Case}
use Rattle.lookup.specs.Methods.{known}
use Rattle.lookup.specs.Refusals.{case_refusal}
use Rattle.case_sheet.specs.Edition.{six_columns}
use Rattle.sheet_call.specs.Call.{sheet_refusal, sheet_answer, sheet_log, sheet_count, reply, log_left}

-- the ten numbers of a case line
abbrev pub numbers : Case → List ℕ
numbers c = c.method ∷ c.n ∷ c.m ∷ c.x0 ∷ c.r1 ∷ c.r2 ∷ c.s1 ∷ c.s2 ∷ c.r3 ∷ c.b ∷ []

-- a case with a number above 255, on its case line or in its table, is refused: no number is cut to a byte
unfoldable pub WideRefused : Type 0
WideRefused =
    (table : List ℕ) (c : Case) → case_refusal c table ≡ 0 → (any_from 256 (numbers c) ≡ false) × (any_from 256 table ≡ false)

-- a table entry above 255 is 6 where 2 to 5 do not apply, whatever m is
unfoldable pub WideEntry : Type 0
WideEntry =
    (table : List ℕ) (c : Case) → any_from 256 table ≡ true → known c.method ≡ true → outside 1 8 c.n ≡ false
    → outside 1 8 c.m ≡ false → length table ≡ 2 ^ c.n → case_refusal c table ≡ 6

-- a sheet that is refused leaves the lent log as it was, and its number stands alone
unfoldable pub RefusedUntouched : Type 0
RefusedUntouched =
    (input lent : List ℕ) → (sheet_refusal six_columns input ≡ 0 → ⊥)
    → (log_left input lent ≡ lent) × (reply input ≡ record { refusal = sheet_refusal six_columns input; share = 0; count = 0 })

-- one that is not hands back the answer and the count, and leaves the log in front
unfoldable pub AcceptedAnswered : Type 0
AcceptedAnswered =
    (input lent : List ℕ) → sheet_refusal six_columns input ≡ 0
    → (log_left input lent ≡ in_front (sheet_log six_columns input) lent)
    × (reply input ≡ record { refusal = 0; share = sheet_answer six_columns input; count = sheet_count six_columns input })

-- the longest log of a sheet
unfoldable pub LogMost : Type 0
LogMost =
    (input : List ℕ) → sheet_refusal six_columns input ≡ 0
    → (length (sheet_log six_columns input) ≡ sheet_count six_columns input) × (sheet_count six_columns input ≤ 2314)

-- the first 4096 bytes of an input, which are all that the programs read, decide
unfoldable pub FrontAsked : Type 0
FrontAsked =
    (input : List ℕ) → (sheet_refusal six_columns (take 4096 input) ≡ sheet_refusal six_columns input)
    × (sheet_refusal six_columns input ≡ 0 → take 4096 input ≡ input)
