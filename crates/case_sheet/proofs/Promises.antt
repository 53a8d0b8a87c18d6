-- The promises of specs/Promises.antt, proved.
use mathlib.Core.Path.{◌≡◌, refl, sym, ap, ◌∙◌}
use mathlib.Core.Bool.{Bool, true, false, ◌&&◌, cond, and-eq-true_iff}
use mathlib.Core.List.{List}
use Prim.Native.Nat.{ℕ, ◌+◌, ◌*◌, ◌≤◌, ◌<◌}
use native.Mathlib.Nat.{mul-le-mul}
use native.Mathlib.Omega.{arith}
use borrow.Author.Tests.{eqb-true, leb-true, leb-false}
use lib.Dec.{eqb, leb}
use lib.ListN.{length, get_or, take}
use lib.Seq.{take_all, length-take-le}
use Rattle.case_sheet.specs.declared.Edition.{Edition}
use Rattle.case_sheet.specs.Edition.{four_columns, six_columns}
use Rattle.case_sheet.specs.Sheet.{numbers_of, table_of, complete, well_formed}
use Rattle.case_sheet.specs.Promises.{SheetLong, SheetMost, FrontDecides}
use Rattle.case_sheet.proofs.Sheets.{leading_most, every_number}

pub sheet_long : SheetLong
unfolding SheetLong well_formed complete
sheet_long edition fields input w =
    let first = eqb (length (numbers_of edition fields input)) fields && eqb (get_or input (edition.columns * fields) 0) 10 in
    (every_number edition fields input w, sym (eqb-true _ (length input) ((and-eq-true_iff first _).0 w).1))

table_few : (edition : Edition) (fields : ℕ) (input : List ℕ) → length (table_of edition fields input) ≤ 256
unfolding table_of
table_few edition fields input = leading_most edition true 256 _

-- no more than so many bytes, where columns and fields are few
most_of : (edition : Edition) (fields : ℕ) (input : List ℕ) → (columns : ℕ) → edition.columns ≤ columns → fields ≤ 10
    → well_formed edition fields input ≡ true → length input ≤ columns * 10 + 1 + (columns + 1) * 256
unfolding SheetLong
most_of edition fields input columns c f w =
    let case_line : edition.columns * fields ≤ columns * 10 = mul-le-mul c f in
    let table : (edition.columns + 1) * length (table_of edition fields input) ≤ (columns + 1) * 256
    = mul-le-mul {n₂ = columns + 1} (omega arith) (table_few edition fields input) in
    omega (arith, (sheet_long edition fields input w).1, case_line, table)

pub sheet_most : SheetMost
unfolding SheetMost
sheet_most fields input f = (λ w. most_of four_columns fields input 4 (omega arith) f w, λ w. most_of six_columns fields input 6 (omega arith) f w)

pub front_decides : FrontDecides
unfolding FrontDecides
front_decides edition fields input c f =
    let whole : well_formed edition fields input ≡ true → take 4096 input ≡ input
    = λ w. take_all 4096 input (omega (arith, most_of edition fields input 6 c f w)) in
    (front_by_cases (leb (length input) 4096) refl, whole)
  where
    -- 4096 bytes are no sheet, nor are more
    too_long : (bytes : List ℕ) → 4096 ≤ length bytes → well_formed edition fields bytes ≡ false
    too_long bytes h = too_long_by_cases (well_formed edition fields bytes) refl
      where
        too_long_by_cases : (t : Bool) → well_formed edition fields bytes ≡ t → t ≡ false
        too_long_by_cases false w = refl
        too_long_by_cases true w = absurd (omega (arith, most_of edition fields bytes 6 c f w))

    front_by_cases : (t : Bool) → leb (length input) 4096 ≡ t → well_formed edition fields (take 4096 input) ≡ well_formed edition fields input
    front_by_cases true e = ap (well_formed edition fields) (take_all 4096 input (leb-true _ _ e))
    front_by_cases false e =
        let long : 4096 < length input = leb-false _ _ e in
        too_long (take 4096 input) (omega (arith, length-take-le 4096 input (omega arith))) ∙ sym (too_long input (omega arith))

-- so has any answer to a sheet that has another for what is none
pub front_answers : (edition : Edition) (fields : ℕ) (input : List ℕ) → edition.columns ≤ 6 → fields ≤ 10
    → (answer : List ℕ → List ℕ) (other : List ℕ)
    → cond (well_formed edition fields (take 4096 input)) (answer (take 4096 input)) other ≡ cond (well_formed edition fields input) (answer input) other
unfolding FrontDecides
front_answers edition fields input c f answer other =
    let front = front_decides edition fields input c f in
    ap (λ t. cond t (answer (take 4096 input)) other) front.0 ∙ front_answers_by_cases (well_formed edition fields input) front.1
  where
    front_answers_by_cases : (t : Bool) → (t ≡ true → take 4096 input ≡ input) → cond t (answer (take 4096 input)) other ≡ cond t (answer input) other
    front_answers_by_cases true h = ap answer (h refl)
    front_answers_by_cases false h = refl
