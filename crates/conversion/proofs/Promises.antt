-- The promises of specs/Promises.antt, proved: one law for any two editions, and each way by it.
use mathlib.Core.Path.{◌≡◌, refl, sym, ap, ◌∙◌}
use mathlib.Core.Bool.{Bool, true, false, cond, true≢false}
use mathlib.Core.List.{List, [], ◌∷◌, ◌++◌}
use Prim.Native.Nat.{ℕ, zero, suc, ◌+◌, ◌≤◌}
use native.Mathlib.Omega.{arith}
use lib.Dec.{lit<}
use lib.ListN.{length, take, drop}
use Rattle.refusals.specs.Checks.{first_of}
use Rattle.refusals.specs.Tests.{any_from}
use Rattle.refusals.proofs.Tests.{neither, neither_of, one_below, none_below, any_either, any_less}
use Rattle.std.specs.Prelude.{Option, Some, None}
use Rattle.case_sheet.specs.declared.Edition.{Edition}
use Rattle.case_sheet.specs.Edition.{four_columns, six_columns}
use Rattle.case_sheet.specs.Sheet.{item, size, before, leading, numbers_of, table_of, well_formed}
use Rattle.case_sheet.specs.Promises.{FrontDecides}
use Rattle.case_sheet.proofs.Items.{item_found}
use Rattle.case_sheet.proofs.Promises.{front_decides}
use Rattle.case_sheet.proofs.Sheets.{leading_most, every_number, short_other}
use Rattle.log_print.specs.Lines.{line_of}
use Rattle.log_print.proofs.Lines.{line_long}
use Rattle.sheet.specs.Print.{print_in}
use Rattle.conversion.specs.Conversion.{conversion_checks, conversion_refusal, converted, to_six_columns, to_four_columns}
use Rattle.conversion.specs.Promises.{SheetOf, HasNumbers, Legible, EditionsLegible, LinesRead, SheetWritten}
use Rattle.conversion.specs.Promises.{above_255, SixRefusal, FourRefusal, OldAndBack, NewAndBack, SixNumbers, FourNumbers}
use Rattle.conversion.specs.Promises.{SameAnswer, SameAnswerBack, FrontConverted}
use Rattle.conversion.proofs.Sheets.{sheet_is_lines, numbers_back, table_back, formed_back}

-- what is read is not above the edition's largest
leading_small : (edition : Edition) (line : Bool) (k : ℕ) (bytes : List ℕ) → any_from (edition.most + 1) (leading edition line k bytes) ≡ false
unfolding leading before
leading_small edition line zero bytes = none_below _
leading_small edition line (suc k) bytes =
    leading_small_by_cases (item edition line bytes) refl (leading_small edition line k (drop (size edition line) bytes))
  where
    leading_small_by_cases : (found : Option ℕ) → item edition line bytes ≡ found
        → any_from (edition.most + 1) (leading edition line k (drop (size edition line) bytes)) ≡ false
        → any_from (edition.most + 1) (before found (leading edition line k (drop (size edition line) bytes))) ≡ false
    leading_small_by_cases None q more = none_below _
    leading_small_by_cases (Some value) q more =
        one_below (edition.most + 1) value _ (omega (arith, (item_found edition line bytes value q).1)) more

sheet_small : (edition : Edition) (input : List ℕ)
    → any_from (edition.most + 1) (numbers_of edition 10 input ++ table_of edition 10 input) ≡ false
unfolding numbers_of table_of
sheet_small edition input =
    any_either (edition.most + 1) (numbers_of edition 10 input) (table_of edition 10 input)
    ∙ neither_of (leading_small edition false 10 input) (leading_small edition true 256 _)

-- what refuses: 1, then 22
refusal_cases : (from to : Edition) (input : List ℕ)
    → conversion_refusal from to input
    ≡ cond (well_formed from 10 input) (cond (any_from (to.most + 1) (numbers_of from 10 input ++ table_of from 10 input)) 22 0) 1
unfolding conversion_refusal conversion_checks first_of
refusal_cases from to input = refusal_by_cases (well_formed from 10 input) refl
  where
    refusal_by_cases : (t : Bool) → well_formed from 10 input ≡ t
        → conversion_refusal from to input
        ≡ cond t (cond (any_from (to.most + 1) (numbers_of from 10 input ++ table_of from 10 input)) 22 0) 1
    refusal_by_cases true w = rw w
    refusal_by_cases false w = rw w

-- SHEETS
pub editions_legible : EditionsLegible
unfolding EditionsLegible
editions_legible = (record { some = omega arith; room = lit< tt }, record { some = omega arith; room = lit< tt })

pub lines_read : LinesRead
unfolding LinesRead SheetOf
lines_read edition numbers table legible ten few small =
    let both = neither _ _ (sym (any_either (edition.most + 1) numbers table) ∙ small) in
    record {
      sheet = rw ten at (formed_back edition legible numbers table few both.0 both.1);
      numbers_are = rw ten at (numbers_back edition legible numbers table few both.0 both.1);
      table_is = rw ten at (table_back edition legible numbers table few both.0 both.1);
    }

pub sheet_written : SheetWritten
unfolding SheetWritten SheetOf
sheet_written edition input numbers table has = sym (sheet_is_lines edition 10 input has.sheet) ∙ rw (has.numbers_are, has.table_is)

-- ANY TWO EDITIONS
module _ (from to : Edition) (legible : Legible to) (input : List ℕ) (w : well_formed from 10 input ≡ true)
    (small : any_from (to.most + 1) (numbers_of from 10 input ++ table_of from 10 input) ≡ false) where
  few : length (table_of from 10 input) ≤ 256
  unfolding table_of
  few = leading_most from true 256 _

  same_numbers : HasNumbers to (converted from to input) (numbers_of from 10 input) (table_of from 10 input)
  unfolding LinesRead converted
  same_numbers =
      let none : conversion_refusal from to input ≡ 0 = refusal_cases from to input ∙ rw (w, small) in
      rw none (lines_read to (numbers_of from 10 input) (table_of from 10 input) legible (every_number from 10 input w) few small)

  and_back : converted to from (converted from to input) ≡ input
  unfolding converted SheetOf
  and_back =
      let there = same_numbers in
      let fine : any_from (from.most + 1) (numbers_of to 10 (converted from to input) ++ table_of to 10 (converted from to input)) ≡ false
      = rw (there.numbers_are, there.table_is) (sheet_small from input) in
      let none : conversion_refusal to from (converted from to input) ≡ 0
      = refusal_cases to from (converted from to input) ∙ rw (there.sheet, fine) in
      rw (none, there.numbers_are, there.table_is) (sheet_is_lines from 10 input w)

  same_answer_in : (columns : ℕ) → print_in to columns (converted from to input) ≡ print_in from columns input
  unfolding print_in SheetOf
  same_answer_in columns = let there = same_numbers in rw (there.sheet, there.numbers_are, there.table_is, w)

-- what is no sheet of the one edition goes to a line that is no sheet of the other
neither_sheet : (from to : Edition) → 1 ≤ to.columns → (columns : ℕ) (input : List ℕ) → well_formed from 10 input ≡ false
    → print_in to columns (converted from to input) ≡ print_in from columns input
unfolding print_in converted
neither_sheet from to h columns input w =
    let one : conversion_refusal from to input ≡ 1 = refusal_cases from to input ∙ rw w in
    let other : well_formed to 10 (line_of 6 (1 ∷ [])) ≡ false
    = short_other to 10 (line_of 6 (1 ∷ [])) (omega (arith, line_long 6 (1 ∷ []))) in
    rw (one, other, w)

-- EACH WAY
-- no number of four columns is too large for six
six_small : (input : List ℕ) → any_from 65536 (numbers_of four_columns 10 input ++ table_of four_columns 10 input) ≡ false
six_small input = six_small_by_cases (any_from 65536 (numbers_of four_columns 10 input ++ table_of four_columns 10 input)) refl
  where
    six_small_by_cases : (t : Bool) → any_from 65536 (numbers_of four_columns 10 input ++ table_of four_columns 10 input) ≡ t → t ≡ false
    six_small_by_cases false e = refl
    six_small_by_cases true e =
        absurd (true≢false (sym (any_less 65536 256 _ (omega arith) e) ∙ sheet_small four_columns input))

-- nothing refuses a sheet of six columns: it is one, and no number is above 255
taken : (input : List ℕ) → conversion_refusal six_columns four_columns input ≡ 0
    → (well_formed six_columns 10 input ≡ true)
    × (any_from 256 (numbers_of six_columns 10 input ++ table_of six_columns 10 input) ≡ false)
taken input e =
    taken_by_cases (well_formed six_columns 10 input) (any_from 256 (numbers_of six_columns 10 input ++ table_of six_columns 10 input))
    (sym (refusal_cases six_columns four_columns input) ∙ e)
  where
    taken_by_cases : (t u : Bool) → ◌≡◌ {A = ℕ} (cond t (cond u 22 0) 1) 0 → (t ≡ true) × (u ≡ false)
    taken_by_cases true false e = (refl, refl)
    taken_by_cases true true e = absurd (omega arith)
    taken_by_cases false u e = absurd (omega arith)

pub six_refusal : SixRefusal
unfolding SixRefusal
six_refusal input = refusal_cases four_columns six_columns input ∙ rw (six_small input)

pub four_refusal : FourRefusal
unfolding FourRefusal above_255
four_refusal input = refusal_cases six_columns four_columns input

pub six_numbers : SixNumbers
unfolding SixNumbers SheetOf to_six_columns EditionsLegible
six_numbers input w = same_numbers four_columns six_columns editions_legible.1 input w (six_small input)

pub four_numbers : FourNumbers
unfolding FourNumbers to_four_columns EditionsLegible
four_numbers input e = let t = taken input e in same_numbers six_columns four_columns editions_legible.0 input t.0 t.1

pub old_and_back : OldAndBack
unfolding OldAndBack SheetOf to_six_columns to_four_columns EditionsLegible
old_and_back input w = and_back four_columns six_columns editions_legible.1 input w (six_small input)

pub new_and_back : NewAndBack
unfolding NewAndBack to_six_columns to_four_columns EditionsLegible
new_and_back input e = let t = taken input e in and_back six_columns four_columns editions_legible.0 input t.0 t.1

pub same_answer : SameAnswer
unfolding SameAnswer to_six_columns EditionsLegible
same_answer columns input = same_answer_by_cases (well_formed four_columns 10 input) refl
  where
    same_answer_by_cases : (t : Bool) → well_formed four_columns 10 input ≡ t
        → print_in six_columns columns (converted four_columns six_columns input) ≡ print_in four_columns columns input
    same_answer_by_cases true w = same_answer_in four_columns six_columns editions_legible.1 input w (six_small input) columns
    same_answer_by_cases false w = neither_sheet four_columns six_columns (omega arith) columns input w

pub same_answer_back : SameAnswerBack
unfolding SameAnswerBack to_four_columns EditionsLegible
same_answer_back columns input h =
    back_by_cases (well_formed six_columns 10 input) (any_from 256 (numbers_of six_columns 10 input ++ table_of six_columns 10 input)) refl refl
  where
    back_by_cases : (t u : Bool) → well_formed six_columns 10 input ≡ t
        → any_from 256 (numbers_of six_columns 10 input ++ table_of six_columns 10 input) ≡ u
        → print_in four_columns columns (converted six_columns four_columns input) ≡ print_in six_columns columns input
    back_by_cases false u w s = neither_sheet six_columns four_columns (omega arith) columns input w
    back_by_cases true false w s = same_answer_in six_columns four_columns editions_legible.0 input w s columns
    back_by_cases true true w s = absurd (h (refusal_cases six_columns four_columns input ∙ rw (w, s)))

-- what is read of the input decides
front_converted_in : (from to : Edition) (input : List ℕ) → from.columns ≤ 6 → converted from to (take 4096 input) ≡ converted from to input
unfolding FrontDecides converted
front_converted_in from to input c =
    let front = front_decides from 10 input c (omega arith) in
    front_by_cases (well_formed from 10 input) refl front.0 front.1
  where
    front_by_cases : (t : Bool) → well_formed from 10 input ≡ t → well_formed from 10 (take 4096 input) ≡ well_formed from 10 input
        → (well_formed from 10 input ≡ true → take 4096 input ≡ input)
        → converted from to (take 4096 input) ≡ converted from to input
    front_by_cases true w e h = ap (converted from to) (h w)
    front_by_cases false w e h =
        let here : conversion_refusal from to input ≡ 1 = refusal_cases from to input ∙ rw w in
        let there : conversion_refusal from to (take 4096 input) ≡ 1 = refusal_cases from to (take 4096 input) ∙ rw (e, w) in
        rw (here, there)

pub front_converted : FrontConverted
unfolding FrontConverted to_six_columns to_four_columns
front_converted input =
    (front_converted_in four_columns six_columns input (omega arith), front_converted_in six_columns four_columns input (omega arith))
