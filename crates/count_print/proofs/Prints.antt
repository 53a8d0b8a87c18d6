-- From the sheet that was read to the print.
use mathlib.Core.Path.{◌≡◌, refl, sym, ap, ◌∙◌}
use mathlib.Core.Bool.{true, false}
use mathlib.Core.List.{List, [], ◌∷◌, ◌++◌, append_assoc}
use Prim.Native.Nat.{ℕ, ◌^◌, ◌≤◌}
use native.Mathlib.Omega.{arith}
use borrow.Author.Tests.{ne_eqb}
use lib.Dec.{leb}
use lib.ListN.{length, take, replicate}
use Rattle.std.specs.Prelude.{Option, Some, None, Result, Err}
use Rattle.refusals.specs.declared.Refusal.{Refusal}
use Rattle.refusals.specs.Numbers.{number_of, refusal_of}
use Rattle.refusals.proofs.Numbers.{not_zero}
use Rattle.refusals.specs.Checks.{Check, ◌when◌, first_of}
use Rattle.buffers.specs.Written.{in_front}
use Rattle.wide_table.specs.Wide.{wide, method_and_table, wide_refusal}
use Rattle.wide_table.proofs.Refusing.{none_wide, wide_first}
use Rattle.wide_table.proofs.Narrowing.{bytes_taken, bytes_lent as narrowed_lent, bytes_within as narrowed_within}
use Rattle.case_sheet.specs.declared.Edition.{Edition}
use Rattle.case_sheet.specs.Edition.{six_columns}
use Rattle.case_sheet.specs.Sheet.{numbers_of, table_of, well_formed, lines_of}
use Rattle.case_sheet.proofs.Sheets.{read_malformed, read_formed, numbers_read, table_lent, entries_few, entries_lent, entries_within}
use Rattle.log_print.specs.Lines.{line_of}
use Rattle.count_sheet.specs.declared.ProbePair.{ProbePair}
use Rattle.count_sheet.specs.Refusals.{pair_checks, count_refusal}
use Rattle.count_print.specs.Print.{pair_read, print_refusal, reply, print}

-- 2 to 7, and what stands behind them in the list of checks
checks_behind : (p : ProbePair) (table : List ℕ) (lent sheet : List Check)
    → method_and_table p.method p.n p.m table ++ (10 when (leb (2 ^ p.n) p.secret) ∷ [] ++ (lent ++ sheet))
    ≡ (pair_checks p table ++ lent) ++ sheet
unfolding pair_checks method_and_table
checks_behind p table lent sheet = simp append_assoc

-- what refuses a wide table is the print's refusal
wide_pair : (p : ProbePair) (table : List ℕ) → (wide_refusal p.method p.n p.m table ≡ 0 → ⊥)
    → wide_refusal p.method p.n p.m table ≡ print_refusal p table
unfolding print_refusal count_refusal
wide_pair p table h = wide_first p.method p.n p.m table _ h ∙ ap first_of (checks_behind p table _ _)

refusal_line : (p : ProbePair) (table : List ℕ) (k : ℕ) → (k ≡ 0 → ⊥) → k ≡ print_refusal p table → reply p table ≡ line_of 6 (k ∷ [])
unfolding reply
refusal_line p table k h e = rw (e, ne_eqb (print_refusal p table) 0 (λ z. h (e ∙ z)))

module _ (edition : Edition) (six : edition ≡ six_columns) (input : List ℕ) {r : Option ℕ} (told : r ≡ lines_of edition 6 input) where
  lines : r ≡ lines_of six_columns 6 input
  lines = told ∙ rw six

  -- another form
  module _ (none : r ≡ None) where
    pub other_print : print input ≡ line_of 6 (1 ∷ [])
    unfolding print
    other_print = rw (read_malformed six_columns 6 input r lines none)

  -- the right form
  module _ (entries : ℕ) (is : r ≡ Some entries) where
    formed : (well_formed six_columns 6 input ≡ true) × (entries ≡ length (table_of six_columns 6 input))
    formed = read_formed six_columns 6 input r lines is

    module _ (old table : List ℕ) (left : table ≡ in_front (table_of edition 6 input) old) where
      read : table ≡ in_front (table_of six_columns 6 input) old
      read = left ∙ rw six

      pub table_counted : entries ≡ length (take entries table)
      table_counted = entries_lent six_columns 6 input old table read entries formed.1

      pub table_within : entries ≤ length table
      table_within = entries_within six_columns 6 input old table read entries formed.1

      pub bytes_room : (zeros : List ℕ) → zeros ≡ replicate 256 0 → length (take entries table) ≤ length zeros
      bytes_room zeros e = rw e (omega (arith, table_counted, entries_few six_columns 6 input old table read entries formed.1))

      module _ (zeros bytes : List ℕ) (narrowed : bytes ≡ in_front (take entries table) zeros) where
        pub bytes_counted : entries ≡ length (take entries bytes)
        bytes_counted = narrowed_lent (take entries table) zeros bytes narrowed entries table_counted

        pub bytes_within : entries ≤ length bytes
        bytes_within = narrowed_within (take entries table) zeros bytes narrowed entries table_counted

      module _ (numbers : List ℕ) (listed : numbers ≡ in_front (numbers_of edition 6 input) (replicate 6 0)) (p : ProbePair)
          (pair : p ≡ pair_read numbers) where
        answer : print input ≡ reply p (take entries table)
        unfolding print
        answer =
            let taken : numbers ≡ numbers_of six_columns 6 input
            = numbers_read six_columns 6 input (replicate 6 0) numbers refl formed.0 (listed ∙ rw six) in
            rw (table_lent six_columns 6 input old table read entries formed.1, pair, taken, formed.0)

        -- refused for an entry above 255
        module _ {A : Type 0} (seen : Result A Refusal) (looked : refusal_of seen ≡ wide_refusal p.method p.n p.m (take entries table))
            (refusal : Refusal) (found : seen ≡ Err refusal) where
          pub wide_print : print input ≡ line_of 6 (number_of refusal ∷ [])
          wide_print =
              let same : number_of refusal ≡ wide_refusal p.method p.n p.m (take entries table) = rw found at looked in
              let some = not_zero refusal in
              let number : number_of refusal ≡ print_refusal p (take entries table)
              = same ∙ wide_pair p (take entries table) (λ z. some (same ∙ z)) in
              answer ∙ refusal_line p (take entries table) _ some number

        module _ (zeros bytes : List ℕ) (narrowed : bytes ≡ in_front (take entries table) zeros) where
          pub answered : print input ≡ reply p (take entries bytes)
          answered = answer ∙ ap (reply p) (sym (bytes_taken (take entries table) zeros bytes narrowed entries table_counted))

-- each entry is a byte
pub not_wide : (p : ProbePair) (table : List ℕ) → 0 ≡ wide_refusal p.method p.n p.m table → wide table ≡ false
not_wide p table looked = none_wide p.method p.n p.m table (sym looked)

-- what `print` is proved by
pub ruleset print_laws =
    (other_print, table_counted, table_within, bytes_room, bytes_counted, bytes_within, wide_print, not_wide, answered)
