-- What the call told of a sheet: for those who print it.
use mathlib.Core.Path.{◌≡◌, refl, sym, ap, ◌∙◌}
use mathlib.Core.Bool.{Bool, true, false, cond}
use mathlib.Core.List.{List}
use Prim.Native.Nat.{ℕ, zero, suc, ◌≤◌}
use native.Mathlib.Omega.{arith}
use lib.ListN.{length, take, length-take}
use lib.Seq.{take_at}
use Rattle.buffers.specs.Written.{in_front}
use Rattle.refusals.specs.Left.{left}
use Rattle.lookup.specs.declared.Case.{Case}
use Rattle.lookup.specs.Call.{log_length, scratch_length}
use Rattle.lookup.specs.Refusals.{case_refusal}
use Rattle.lookup.specs.Promises.{LogLong}
use Rattle.lookup.proofs.Accepted.{accepted}
use Rattle.lookup.proofs.Sizes.{log_most as length_most, scratch_most}
use Rattle.lookup.proofs.Promises.{log_long}
use Rattle.calls.specs.Reply.{called}
use Rattle.case_sheet.specs.declared.Edition.{Edition}
use Rattle.case_sheet.specs.Edition.{six_columns}
use Rattle.case_sheet.specs.Sheet.{well_formed, table_of}
use Rattle.sheet_call.specs.Call.{sheet_case, sheet_refusal, sheet_answer, sheet_log, sheet_count, reply, log_left}

called_number : (refusal share count : ℕ) → (called refusal share count).refusal ≡ refusal
unfolding called
called_number zero share count = refl
called_number (suc k) share count = refl

-- the longest log and scratch
module _ (c : Case) (table : List ℕ) (e : case_refusal c table ≡ 0) where
  pub log_small : log_length c.method c.n ≤ 2314
  log_small = length_most c.method c.n (accepted c table e).0 (accepted c table e).1.table.input_most

  pub scratch_small : scratch_length c.method c.n ≤ 512
  scratch_small = scratch_most c.method c.n (accepted c table e).0 (accepted c table e).1.table.input_most

-- a sheet that is not refused has the form, and its case is accepted
pub taken : (edition : Edition) (input : List ℕ) → sheet_refusal edition input ≡ 0
    → (well_formed edition 10 input ≡ true) × (case_refusal (sheet_case edition input) (table_of edition 10 input) ≡ 0)
unfolding sheet_refusal
taken edition input e = taken_by_cases (well_formed edition 10 input) e
  where
    taken_by_cases : (t : Bool) → cond t (case_refusal (sheet_case edition input) (table_of edition 10 input)) 1 ≡ 0
        → (t ≡ true) × (case_refusal (sheet_case edition input) (table_of edition 10 input) ≡ 0)
    taken_by_cases true e = (refl, e)
    taken_by_cases false e = absurd (omega arith)

-- what is told of a refused sheet is its number
pub refused_number : (input : List ℕ) (k : ℕ) → record { refusal = k; share = 0; count = 0 } ≡ reply input → k ≡ sheet_refusal six_columns input
unfolding reply
refused_number input k told = ap (λ y. y.refusal) told ∙ called_number (sheet_refusal six_columns input) _ _

-- of an accepted one, its answer share and its count
module _ (input : List ℕ) (s n : ℕ) (told : record { refusal = 0; share = s; count = n } ≡ reply input) where
  pub none : sheet_refusal six_columns input ≡ 0
  unfolding reply
  none = sym (ap (λ y. y.refusal) told ∙ called_number (sheet_refusal six_columns input) _ _)

  pub share : s ≡ sheet_answer six_columns input
  unfolding reply called
  share = ap (λ y. y.share) told ∙ rw none

  pub count : n ≡ sheet_count six_columns input
  unfolding reply called
  count = ap (λ y. y.count) told ∙ rw none

  long : length (sheet_log six_columns input) ≡ n
  unfolding LogLong sheet_log sheet_count
  long = (log_long (table_of six_columns 10 input) (sheet_case six_columns input) (taken six_columns input none).1).0 ∙ sym count

  pub few : n ≤ 2314
  unfolding sheet_count
  few = rw count (log_small (sheet_case six_columns input) (table_of six_columns 10 input) (taken six_columns input none).1)

  module _ (lent now : List ℕ) (left_is : now ≡ log_left input lent) where
    -- the entries in front are the log
    pub entries : take n now ≡ sheet_log six_columns input
    unfolding log_left left in_front
    entries = rw (left_is, none) (take_at (sheet_log six_columns input) _ n long)

    pub entries_lent : n ≡ length (take n now)
    entries_lent = sym (ap length entries ∙ long)

    pub count_within : n ≤ length now
    count_within = omega (arith, entries_lent, length-take n now)

    pub few_lent : length (take n now) ≤ 2400
    few_lent = omega (arith, entries_lent, few)
