-- How a sheet is carried over: what refuses it, and its lines.
use mathlib.Core.Path.{◌≡◌, refl, sym, ap, ◌∙◌}
use mathlib.Core.Bool.{Bool, true, false, ◌||◌}
use mathlib.Core.List.{List, [], ◌∷◌, ◌++◌, map}
use Prim.Native.Nat.{ℕ, ◌+◌, ◌*◌, ◌≤◌}
use native.Mathlib.Nat.{mul-le-mul}
use native.Mathlib.Omega.{arith}
use borrow.Author.Tests.{eq-eqb, ne_eqb}
use lib.ListN.{length, take, replicate, length-append}
use Rattle.std.specs.Prelude.{Option, Some, None}
use Rattle.std.proofs.lemmas.List.{map-id}
use Rattle.refusals.specs.Checks.{first_of}
use Rattle.refusals.specs.Tests.{any_from}
use Rattle.refusals.proofs.Tests.{any_either}
use Rattle.buffers.specs.Written.{written, in_front}
use Rattle.buffers.proofs.Written.{written_more, written_front}
use Rattle.case_sheet.specs.declared.Edition.{Edition}
use Rattle.case_sheet.specs.Sheet.{numbers_of, table_of, well_formed, lines_of}
use Rattle.case_sheet.proofs.Sheets.{read_malformed, read_formed, numbers_read, table_lent, entries_few, entries_lent, entries_within}
use Rattle.log_print.specs.Lines.{line_of, column_of}
use Rattle.log_print.proofs.Lines.{line_long}
use Rattle.log_print.proofs.Columns.{column_long}
use Rattle.conversion.specs.Conversion.{sheet_lines, conversion_checks, conversion_refusal, converted}

-- WHAT REFUSES IT
-- each list is looked through, as it is
module _ {r : Bool} (most least : ℕ) (numbers table : List ℕ) (same : least ≡ most) (e : r ≡ any_from (least + 1) (map (λ x. x) numbers)) where
  numbers_told : any_from (most + 1) (numbers ++ table) ≡ (r || any_from (most + 1) table)
  numbers_told =
      any_either (most + 1) numbers table
      ∙ ap (λ t. t || any_from (most + 1) table) (sym (e ∙ rw (same, map-id numbers)))

  pub first_above : r ≡ true → r ≡ any_from (most + 1) (numbers ++ table)
  first_above y = y ∙ sym (numbers_told ∙ rw y)

  pub rest_above : {s : Bool} → s ≡ any_from (least + 1) (map (λ x. x) table) → r ≡ false → s ≡ any_from (most + 1) (numbers ++ table)
  rest_above f n = f ∙ rw (same, map-id table) (sym (numbers_told ∙ rw n))

-- ITS LINES
module _ (columns : ℕ) (numbers table : List ℕ) (few : columns ≤ 6) (ten : length numbers ≡ 10) where
  case_long : length (line_of columns numbers) ≡ 10 * columns + 1
  case_long = line_long columns numbers ∙ ap (λ k. k * columns + 1) ten

  module _ (entries : length table ≤ 256) where
    lines_most : length table * (columns + 1) ≤ 256 * 7
    lines_most = mul-le-mul {m₂ = 7} entries (omega arith)

    pub sheet_long : 10 * columns + 1 + length table * (columns + 1) ≡ length (sheet_lines columns numbers table)
    unfolding sheet_lines
    sheet_long = sym (length-append (line_of columns numbers) _ ∙ omega (arith, case_long, column_long columns table))

    pub sheet_left : (before first second : List ℕ) → length before ≡ 2048 → first ≡ written before 0 (line_of columns numbers)
        → second ≡ written first (10 * columns + 1) (column_of columns table)
        → second ≡ in_front (sheet_lines columns numbers table) before
    unfolding sheet_lines
    sheet_left before first second l e f =
        f ∙ rw e (written_more before 0 (10 * columns + 1) (line_of columns numbers) _ (omega (arith, case_long))
        (omega (arith, lines_most, column_long columns table)))
        ∙ written_front before _

-- THE WHOLE
-- a refusal's number alone
module _ (from to : Edition) (input : List ℕ) (refusal : ℕ) (number : conversion_refusal from to input ≡ refusal) (h : refusal ≡ 0 → ⊥) where
  refused_lines : converted from to input ≡ line_of 6 (refusal ∷ [])
  unfolding converted
  refused_lines = rw (number, ne_eqb _ 0 h)

module _ (from to : Edition) (input : List ℕ) {r : Option ℕ} (told : r ≡ lines_of from 10 input) where
  module _ (none : r ≡ None) where
    other_form : conversion_refusal from to input ≡ 1
    unfolding conversion_refusal conversion_checks first_of
    other_form = rw (read_malformed from 10 input r told none)

    pub malformed : converted from to input ≡ line_of 6 (1 ∷ [])
    malformed = refused_lines from to input 1 other_form (λ z. omega arith)

  module _ (entries : ℕ) (is : r ≡ Some entries) where
    form : (well_formed from 10 input ≡ true) × (entries ≡ length (table_of from 10 input))
    form = read_formed from 10 input r told is

    module _ (old table : List ℕ) (read : table ≡ in_front (table_of from 10 input) old) where
      pub entries_counted : entries ≡ length (take entries table)
      entries_counted = entries_lent from 10 input old table read entries form.1

      pub entries_inside : entries ≤ length table
      entries_inside = entries_within from 10 input old table read entries form.1

      pub lines_few : length (take entries table) ≤ 256
      lines_few = omega (arith, entries_counted, entries_few from 10 input old table read entries form.1)

      formed_table : take entries table ≡ table_of from 10 input
      formed_table = table_lent from 10 input old table read entries form.1

      module _ (numbers : List ℕ) (listed : numbers ≡ in_front (numbers_of from 10 input) (replicate 10 0)) (t : Bool)
          (seen : t ≡ any_from (to.most + 1) (numbers ++ take entries table)) where
        formed_numbers : numbers ≡ numbers_of from 10 input
        formed_numbers = numbers_read from 10 input (replicate 10 0) numbers refl form.0 listed

        large : any_from (to.most + 1) (numbers_of from 10 input ++ table_of from 10 input) ≡ t
        large = sym (seen ∙ rw (formed_numbers, formed_table))

        module _ (y : t ≡ true) where
          above : conversion_refusal from to input ≡ 22
          unfolding conversion_refusal conversion_checks first_of
          above = rw (form.0, large ∙ y)

          pub too_large : converted from to input ≡ line_of 6 (22 ∷ [])
          too_large = refused_lines from to input 22 above (λ z. omega arith)

        module _ (n : t ≡ false) where
          nothing : conversion_refusal from to input ≡ 0
          unfolding conversion_refusal conversion_checks first_of
          nothing = rw (form.0, large ∙ n)

          pub taken : converted from to input ≡ sheet_lines to.columns numbers (take entries table)
          unfolding converted
          taken = rw (formed_numbers, formed_table, eq-eqb _ 0 nothing)

-- what `convert` is proved by
pub ruleset convert_laws = (malformed, entries_counted, entries_inside, lines_few, too_large, taken)
