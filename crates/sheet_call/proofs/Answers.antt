-- From the sheet that was read to the call.
use mathlib.Core.Path.{◌≡◌, refl, sym, ap, ◌∙◌}
use mathlib.Core.Bool.{true, false}
use mathlib.Core.List.{List}
use Prim.Native.Nat.{ℕ, zero, suc, ◌≤◌}
use native.Mathlib.Omega.{arith}
use lib.ListN.{length, take, replicate}
use Rattle.buffers.specs.Written.{in_front}
use Rattle.refusals.specs.Left.{left}
use Rattle.lookup.specs.declared.Case.{Case}
use Rattle.lookup.specs.Called.{Called}
use Rattle.lookup.specs.Refusals.{case_refusal, case_checks, box_checks, mask_checks, method_checks, plain_refusal, logged_refusal}
use Rattle.lookup.specs.Promises.{ClearedTaken}
use Rattle.lookup.proofs.Refused.{log_not_refused, logged_by_plain, refused_by_case}
use Rattle.lookup.proofs.Promises.{cleared_taken}
use Rattle.calls.specs.Reply.{called, logged_reply, logged_log}
use Rattle.wide_table.specs.Wide.{wide, method_and_table, wide_refusal}
use Rattle.wide_table.proofs.Refusing.{none_wide, wide_first}
use Rattle.wide_table.proofs.Narrowing.{bytes_taken, bytes_lent as narrowed_lent, bytes_within as narrowed_within}
use Rattle.case_sheet.specs.declared.Sheet.{Sheet}
use Rattle.case_sheet.specs.Edition.{six_columns}
use Rattle.std.specs.Prelude.{Option, Some, None}
use Rattle.case_sheet.specs.Sheet.{table_of, well_formed, sheet_of}
use Rattle.case_sheet.proofs.Sheets.{sheet_missing, sheet_parts, table_lent, entries_few, entries_lent as read_lent, entries_within as read_within}
use Rattle.sheet_call.specs.Call.{sheet_case, sheet_refusal, sheet_answer, sheet_log, sheet_count, reply, log_left}
use Rattle.sheet_call.proofs.Replies.{log_small, scratch_small}

-- what refuses a wide table is the case's refusal
pub wide_case : (c : Case) (table : List ℕ) → (wide_refusal c.method c.n c.m table ≡ 0 → ⊥)
    → wide_refusal c.method c.n c.m table ≡ case_refusal c table
unfolding case_refusal case_checks box_checks method_checks method_and_table
wide_case c table h = wide_first c.method c.n c.m table (mask_checks c) h

-- zeros are lent, and scratch and log are long enough, so only the case is refused
same_refusal : (c : Case) (table scratch lent : List ℕ) → scratch ≡ replicate 512 0 → length lent ≡ 2400
    → logged_refusal c table scratch lent ≡ case_refusal c table
unfolding ClearedTaken
same_refusal c table scratch lent zeros room = same_refusal_by_cases (case_refusal c table) refl
  where
    same_refusal_by_cases : (k : ℕ) → k ≡ case_refusal c table → logged_refusal c table scratch lent ≡ case_refusal c table
    same_refusal_by_cases zero e =
        logged_by_plain c table scratch lent (log_not_refused c lent (omega (arith, log_small c table (sym e))))
        ∙ ap (plain_refusal c table) zeros ∙ cleared_taken table 512 c (scratch_small c table (sym e))
    same_refusal_by_cases (suc k) e = sym (refused_by_case c table scratch lent (suc k) e (λ z. omega arith)) ∙ e

-- a number that refuses stands alone, and leaves the log
pub number_alone : (k share count : ℕ) → (k ≡ 0 → ⊥) → record { refusal = k; share = 0; count = 0 } ≡ called k share count
unfolding called
number_alone zero share count h = absurd (h refl)
number_alone (suc k) share count h = refl

pub left_alone : (k : ℕ) (new old : List ℕ) → (k ≡ 0 → ⊥) → old ≡ left k new old
unfolding left
left_alone zero new old h = absurd (h refl)
left_alone (suc k) new old h = refl

-- an input of another form is refused with 1
module _ (input : List ℕ) {r : Option Sheet} (told : r ≡ sheet_of input) where
  module _ (none : r ≡ None) where
    other_form : sheet_refusal six_columns input ≡ 1
    unfolding sheet_refusal
    other_form = rw (sheet_missing input told none)

    pub malformed_told : record { refusal = 1; share = 0; count = 0 } ≡ reply input
    unfolding reply called
    malformed_told = rw other_form

    pub malformed_left : (lent : List ℕ) → lent ≡ log_left input lent
    unfolding log_left left
    malformed_left lent = rw other_form

module _ (input : List ℕ) {r : Option Sheet} (told : r ≡ sheet_of input) (s : Sheet) (is : r ≡ Some s) where
  parts : (well_formed six_columns 10 input ≡ true) × (s.case ≡ sheet_case six_columns input) × (s.entries ≡ length (table_of six_columns 10 input))
  unfolding sheet_case
  parts = sheet_parts input told s is

  module _ (old table : List ℕ) (left_is : table ≡ in_front (table_of six_columns 10 input) old) where
    pub entries_lent : s.entries ≡ length (take s.entries table)
    entries_lent = read_lent six_columns 10 input old table left_is s.entries parts.2

    pub entries_within : s.entries ≤ length table
    entries_within = read_within six_columns 10 input old table left_is s.entries parts.2

    table_read : take s.entries table ≡ table_of six_columns 10 input
    table_read = table_lent six_columns 10 input old table left_is s.entries parts.2

    -- refused for an entry above 255
    module _ (w : ℕ) (looked : w ≡ wide_refusal s.case.method s.case.n s.case.m (take s.entries table)) (h : w ≡ 0 → ⊥) where
      number : w ≡ sheet_refusal six_columns input
      unfolding sheet_refusal
      number = looked ∙ wide_case s.case (take s.entries table) (λ z. h (looked ∙ z)) ∙ rw (table_read, parts.1, parts.0)

      pub refused_told : record { refusal = w; share = 0; count = 0 } ≡ reply input
      unfolding reply
      refused_told = number_alone w _ _ h ∙ ap (λ k. called k (sheet_answer six_columns input) (sheet_count six_columns input)) number

      pub refused_left : (lent : List ℕ) → lent ≡ log_left input lent
      unfolding log_left
      refused_left lent = left_alone _ _ lent (λ z. h (number ∙ z))

    -- each entry is a byte
    pub not_wide : 0 ≡ wide_refusal s.case.method s.case.n s.case.m (take s.entries table) → wide (take s.entries table) ≡ false
    not_wide looked = none_wide s.case.method s.case.n s.case.m (take s.entries table) (sym looked)

    pub bytes_room : (zeros : List ℕ) → zeros ≡ replicate 256 0 → length (take s.entries table) ≤ length zeros
    bytes_room zeros e = rw e (omega (arith, entries_lent, entries_few six_columns 10 input old table left_is s.entries parts.2))

    module _ (zeros bytes : List ℕ) (narrowed : bytes ≡ in_front (take s.entries table) zeros) where
      pub bytes_lent : s.entries ≡ length (take s.entries bytes)
      bytes_lent = narrowed_lent (take s.entries table) zeros bytes narrowed s.entries entries_lent

      pub bytes_within : s.entries ≤ length bytes
      bytes_within = narrowed_within (take s.entries table) zeros bytes narrowed s.entries entries_lent

      bytes_are : take s.entries bytes ≡ table_of six_columns 10 input
      bytes_are = bytes_taken (take s.entries table) zeros bytes narrowed s.entries entries_lent ∙ table_read

      module _ (scratch lent : List ℕ) (clean : scratch ≡ replicate 512 0) (room : length lent ≡ 2400) where
        same : logged_refusal s.case (take s.entries bytes) scratch lent ≡ sheet_refusal six_columns input
        unfolding sheet_refusal
        same = same_refusal s.case _ scratch lent clean room ∙ rw (bytes_are, parts.1, parts.0)

        pub answer_told : (x : Called) → x ≡ logged_reply s.case (take s.entries bytes) scratch lent → x ≡ reply input
        unfolding logged_reply reply sheet_answer sheet_count
        answer_told x e = e ∙ rw (same, bytes_are, parts.1)

        pub answer_left : (now : List ℕ) → now ≡ logged_log s.case (take s.entries bytes) scratch lent → now ≡ log_left input lent
        unfolding logged_log log_left sheet_log
        answer_left now e = e ∙ rw (same, bytes_are, parts.1)
