-- The lists of checks of both calls, part by part, as the code goes through them.
use mathlib.Core.Path.{◌≡◌, sym, ◌∙◌}
use mathlib.Core.Bool.{Bool, true, false, not}
use mathlib.Core.List.{List, ◌++◌}
use Prim.Native.Nat.{ℕ, ◌≤◌, ◌<◌}
use borrow.Author.Tests.{lt-ltb, le-ltb}
use lib.ListN.{length}
use Rattle.refusals.specs.Checks.{first_of}
use Rattle.refusals.proofs.Checks.{stops, goes, none_applies, stops_both, goes_both}
use Rattle.table.specs.Refusals.{table_refusal}
use Rattle.lookup.specs.declared.Case.{Case}
use Rattle.lookup.specs.Methods.{known}
use Rattle.lookup.specs.Call.{log_length}
use Rattle.lookup.specs.Refusals.{method_checks, mask_checks, scratch_checks, log_checks}
use Rattle.lookup.specs.Refusals.{box_checks, other_checks, case_checks, case_refusal, plain_refusal, logged_refusal}
use Rattle.lookup.proofs.Accepted.{accepted}
use Rattle.lookup.proofs.Refused.{box_numbered, box_accepted, masks_numbered, buffers_numbered, case_numbered, logged_parts}

module _ (c : Case) (table : List ℕ) where
  -- 2, then the table's numbers
  module _ (r : Bool) (told : r ≡ known c.method) where
    pub at_2 : not r ≡ true → 2 ≡ first_of (box_checks c table)
    unfolding box_checks method_checks
    at_2 t = stops 2 _ (rw (← told) t)

    pub at_table : (k : ℕ) → not r ≡ false → k ≡ table_refusal c.n c.m table → k ≡ first_of (box_checks c table)
    unfolding box_checks method_checks table_refusal
    at_table k f e = goes 2 _ (rw (← told) f) e

  -- one of 2 to 7 applies
  module _ (k : ℕ) (told : k ≡ first_of (box_checks c table)) (h : k ≡ 0 → ⊥) where
    pub at_box : k ≡ case_refusal c table
    unfolding case_refusal case_checks
    at_box = stops_both (box_checks c table) (mask_checks c) told h

    pub at_logged_box : (scratch lent : List ℕ) → k ≡ logged_refusal c table scratch lent
    at_logged_box scratch lent =
        stops_both (box_checks c table) (other_checks c scratch lent) told h ∙ sym (logged_parts c table scratch lent)

  -- none does: the widths have passed, and it goes on with 10 to 12, or with all others
  module _ (told : 0 ≡ first_of (box_checks c table)) where
    pub input_most : c.n ≤ 8
    input_most = (box_accepted c table (sym told)).1.input_most

    pub output_most : c.m ≤ 8
    output_most = (box_accepted c table (sym told)).1.output_most

    pub at_masks : (p : ℕ) → p ≡ first_of (mask_checks c) → p ≡ case_refusal c table
    unfolding case_refusal case_checks
    at_masks p h = goes_both (box_checks c table) (mask_checks c) (box_numbered c table) told h

    pub at_other : (p : ℕ) (scratch lent : List ℕ) → p ≡ first_of (other_checks c scratch lent) → p ≡ logged_refusal c table scratch lent
    at_other p scratch lent h =
        goes_both (box_checks c table) (other_checks c scratch lent) (box_numbered c table) told h
        ∙ sym (logged_parts c table scratch lent)

  pub width_small : 0 ≡ case_refusal c table → c.n ≤ 8
  width_small e = (accepted c table (sym e)).1.table.input_most

  module _ (scratch : List ℕ) where
    -- 2 to 12, then 13 and 19
    pub at_case : (k : ℕ) → k ≡ case_refusal c table → (k ≡ 0 → ⊥) → k ≡ plain_refusal c table scratch
    unfolding case_refusal plain_refusal
    at_case k e h = stops_both (case_checks c table) (scratch_checks c scratch) e h

    pub at_scratch : (p : ℕ) → 0 ≡ case_refusal c table → p ≡ first_of (scratch_checks c scratch) → p ≡ plain_refusal c table scratch
    unfolding case_refusal plain_refusal
    at_scratch p e h = goes_both (case_checks c table) _ (case_numbered c table) e h

-- the other checks of a logged call: 10 to 12, then 13 and 19, then 14
module _ (c : Case) (scratch lent : List ℕ) where
  pub masks_stop : (k : ℕ) → k ≡ first_of (mask_checks c) → (k ≡ 0 → ⊥) → k ≡ first_of (other_checks c scratch lent)
  unfolding other_checks
  masks_stop k told h = stops_both _ (log_checks c lent) (stops_both (mask_checks c) (scratch_checks c scratch) told h) h

  module _ (told : 0 ≡ first_of (mask_checks c)) where
    before : (p : ℕ) → p ≡ first_of (scratch_checks c scratch) → p ≡ first_of (mask_checks c ++ scratch_checks c scratch)
    before p of_scratch = goes_both (mask_checks c) (scratch_checks c scratch) (masks_numbered c) told of_scratch

    pub scratch_stops : (p : ℕ) → p ≡ first_of (scratch_checks c scratch) → (p ≡ 0 → ⊥) → p ≡ first_of (other_checks c scratch lent)
    unfolding other_checks
    scratch_stops p of_scratch h = stops_both _ (log_checks c lent) (before p of_scratch) h

    module _ (of_scratch : 0 ≡ first_of (scratch_checks c scratch)) (size : ℕ) (long : size ≡ log_length c.method c.n) where
      behind : {r : ℕ} → r ≡ first_of (log_checks c lent) → r ≡ first_of (other_checks c scratch lent)
      unfolding other_checks
      behind h = goes_both _ (log_checks c lent) (buffers_numbered c scratch) (before 0 of_scratch) h

      pub at_14 : length lent < size → 14 ≡ first_of (other_checks c scratch lent)
      unfolding log_checks
      at_14 h = behind (stops 14 _ (lt-ltb _ _ (rw long at h)))

      pub at_end : size ≤ length lent → 0 ≡ first_of (other_checks c scratch lent)
      unfolding log_checks
      at_end h = behind (goes 14 _ (le-ltb _ _ (rw long at h)) none_applies)
