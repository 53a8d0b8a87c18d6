-- What is promised of the print. Each is a type; its proof stands in proofs/Promises.antt.
use Rattle.std.specs.Prelude.{◌≡◌, List, [], ◌∷◌, ◌++◌, ℕ, take}
use Rattle.refusals.specs.Checks.{◌when◌, first_of}
use Rattle.refusals.specs.Tests.{any_from}
use Rattle.lookup.specs.Call.{log_length}
use Rattle.count_sheet.specs.declared.ProbePair.{ProbePair}
use Rattle.count_sheet.specs.Refusals.{pair_checks}
use Rattle.count_print.specs.Print.{print_refusal, print}

-- what is lent is long enough: of a well-formed sheet, a refusal that is printed is 2 to 7, 10, 15 or 16
unfoldable pub LentEnough : Type 0
LentEnough =
    (table : List ℕ) (p : ProbePair) → print_refusal p table
    ≡ first_of
    (pair_checks p table
    ++ 15 when (any_from 4 (p.n ∷ p.m ∷ [])) ∷ 16 when (any_from (log_length p.method p.n) (p.first ∷ p.second ∷ [])) ∷ [])

-- the first 4096 bytes of the input, which are all that the program reads, decide
unfoldable pub FrontPrinted : Type 0
FrontPrinted = (input : List ℕ) → print (take 4096 input) ≡ print input
