-- What is promised of the print. Each is a type; its proof stands in proofs/.
use Rattle.std.specs.Prelude.{◌≡◌, true, false, List, [], ◌∷◌, ℕ, ◌^◌, ◌≤◌, length, take}
use Rattle.refusals.specs.Tests.{outside, any_from}
use Rattle.lookup.specs.declared.Case.{Case}
use Rattle.lookup.specs.Methods.{known}
use Rattle.lookup.specs.Refusals.{case_refusal}
use Rattle.case_sheet.specs.declared.Edition.{Edition}
use Rattle.sheet.specs.Print.{print_in, print}
use Rattle.sheet.specs.NarrowPrint.{narrow_print_in}

-- for every input, edition and number of columns, what is printed is what narrow entries printed
unfoldable pub PrintAsNarrow : Type 0
PrintAsNarrow = (edition : Edition) (columns : ℕ) (input : List ℕ) → print_in edition columns input ≡ narrow_print_in edition columns input

-- the ten numbers of a case line
abbrev pub numbers : Case → List ℕ
numbers c = c.method ∷ c.n ∷ c.m ∷ c.x0 ∷ c.r1 ∷ c.r2 ∷ c.s1 ∷ c.s2 ∷ c.r3 ∷ c.b ∷ []

-- a case with a number above 255, on its case line or in its table, is refused: no number is cut to a byte
unfoldable pub WideRefused : Type 0
WideRefused =
    (table : List ℕ) (c : Case) → case_refusal c table ≡ 0 → (any_from 256 (numbers c) ≡ false) × (any_from 256 table ≡ false)

-- a table entry above 255 is 6 where 2 to 5 do not apply, whatever m is
unfoldable pub WideEntry : Type 0
WideEntry =
    (table : List ℕ) (c : Case) → any_from 256 table ≡ true → known c.method ≡ true → outside 1 8 c.n ≡ false
    → outside 1 8 c.m ≡ false → length table ≡ 2 ^ c.n → case_refusal c table ≡ 6

-- the longest print
unfoldable pub PrintMost : Type 0
PrintMost = (input : List ℕ) → length (print input) ≤ 43985

-- the first 4096 bytes of the input, which are all that the program reads, decide
unfoldable pub FrontPrinted : Type 0
FrontPrinted = (input : List ℕ) → print (take 4096 input) ≡ print input
