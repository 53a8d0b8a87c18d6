-- Numbers above 255 in cases that compute: the case 2, 2, 2, 0, 1, 2, 3, 0, 2, 0 and the table 2, 0, 3, 1, which are accepted, and these with
-- some number made too large for a byte. The numbers that are handed back stand in a list behind them.
use Rattle.std.specs.Prelude.{◌≡◌, List, [], ◌∷◌, ℕ}
use Rattle.calls.specs.Reply.{case_from}
use Rattle.lookup.specs.Refusals.{case_refusal}

abbrev S : List ℕ
S = 2 ∷ 0 ∷ 3 ∷ 1 ∷ []

-- S again, if its entries were cut to bytes
abbrev wide : List ℕ
wide = 2 ∷ 0 ∷ 3 ∷ 257 ∷ []

unfoldable pub WideWorked : Type 0
WideWorked =
    case_refusal (case_from 2 2 2 0 1 2 3 0 2 0) S
    -- each number of the case line in turn, and what it is cut to would be accepted
    ∷ case_refusal (case_from 258 2 2 0 1 2 3 0 2 0) S
    ∷ case_refusal (case_from 2 258 2 0 1 2 3 0 2 0) S
    ∷ case_refusal (case_from 2 2 258 0 1 2 3 0 2 0) S
    ∷ case_refusal (case_from 2 2 2 256 1 2 3 0 2 0) S
    ∷ case_refusal (case_from 2 2 2 0 257 2 3 0 2 0) S
    ∷ case_refusal (case_from 2 2 2 0 1 258 3 0 2 0) S
    ∷ case_refusal (case_from 2 2 2 0 1 2 259 0 2 0) S
    ∷ case_refusal (case_from 2 2 2 0 1 2 3 256 2 0) S
    ∷ case_refusal (case_from 2 2 2 0 1 2 3 0 258 0) S
    ∷ case_refusal (case_from 2 2 2 0 1 2 3 0 2 256) S
    ∷ case_refusal (case_from 3 2 2 0 1 2 3 0 2 257) S
    ∷ case_refusal (case_from 5 2 2 0 1 2 3 0 256 0) S
    -- an entry, alone, at m = 8, and beside 2, 3, 4, 5, 7 and 10
    ∷ case_refusal (case_from 2 2 2 0 1 2 3 0 2 0) wide
    ∷ case_refusal (case_from 2 2 8 0 1 2 3 0 2 0) (2 ∷ 0 ∷ 3 ∷ 256 ∷ [])
    ∷ case_refusal (case_from 4 2 2 0 1 2 3 0 2 0) wide
    ∷ case_refusal (case_from 2 9 2 0 1 2 3 0 2 0) wide
    ∷ case_refusal (case_from 2 2 9 0 1 2 3 0 2 0) wide
    ∷ case_refusal (case_from 2 2 2 0 1 2 3 0 2 0) (2 ∷ 0 ∷ 257 ∷ [])
    ∷ case_refusal (case_from 2 2 2 0 1 2 3 0 2 0) (2 ∷ 2 ∷ 3 ∷ 65535 ∷ [])
    ∷ case_refusal (case_from 2 2 2 4 1 2 3 0 2 0) wide
    ∷ []
    ≡ 0 ∷ 2 ∷ 3 ∷ 4 ∷ 10 ∷ 10 ∷ 10 ∷ 11 ∷ 11 ∷ 10 ∷ 12 ∷ 12 ∷ 10 ∷ 6 ∷ 6 ∷ 2 ∷ 3 ∷ 4 ∷ 5 ∷ 6 ∷ 6 ∷ []
