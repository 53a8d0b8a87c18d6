-- The lists of checks of both calls, part by part: what an accepted call has passed, and what a clean scratch is.
use mathlib.Core.Path.{◌≡◌, refl, sym, ap, ◌∙◌}
use mathlib.Core.Bool.{true, false}
use mathlib.Core.List.{List, ◌++◌, append_assoc}
use Prim.Native.Nat.{ℕ, ◌+◌, ◌-◌, ◌≤◌}
use native.Mathlib.Omega.{arith}
use borrow.Author.Tests.{ltb-false, le-ltb, not-false}
use lib.ListN.{length, take, replicate, length-replicate, replicate-append-replicate}
use lib.Seq.{length-take-le, take_at}
use Rattle.refusals.specs.Checks.{first_of}
use Rattle.refusals.specs.Tests.{any_from}
use Rattle.refusals.proofs.Checks.{passed, goes, none_applies, numbered, passed_both, stops_both, goes_both, none_behind, none_before}
use Rattle.refusals.proofs.Tests.{zeros_none, none_nonzero}
use Rattle.table.specs.Refusals.{table_checks, table_refusal}
use Rattle.table.proofs.Refusals.{Table, table_accepted}
use Rattle.lookup.specs.declared.Case.{Case}
use Rattle.lookup.specs.Methods.{known}
use Rattle.lookup.specs.Call.{scratch_length, log_length}
use Rattle.lookup.specs.Refusals.{method_checks, mask_checks, dirty, scratch_checks, log_checks}
use Rattle.lookup.specs.Refusals.{box_checks, other_checks, case_checks, case_refusal, plain_refusal, logged_refusal}

-- zeros are not dirty, whatever stands behind them
pub zeros_clean : (k : ℕ) (scratch : List ℕ) → take k scratch ≡ replicate k 0 → dirty k scratch ≡ false
unfolding dirty
zeros_clean k scratch e = ap (any_from _) e ∙ zeros_none k (omega arith)

-- and what is not dirty is zeros
pub clean_zeros : (k : ℕ) (scratch : List ℕ) → k ≤ length scratch → dirty k scratch ≡ false → take k scratch ≡ replicate k 0
unfolding dirty
clean_zeros k scratch h e = none_nonzero (take k scratch) e ∙ ap (λ i. replicate i 0) (length-take-le k scratch h)

module _ (c : Case) (scratch : List ℕ) where
  -- what the checks of the scratch ask, and nothing else
  pub record Clean : Type 0 where
    pub room : scratch_length c.method c.n ≤ length scratch
    pub clean : dirty (scratch_length c.method c.n) scratch ≡ false

  pub scratch_accepted : first_of (scratch_checks c scratch) ≡ 0 → Clean
  unfolding scratch_checks
  scratch_accepted e =
      let long = passed _ 12 _ e in
      record { room = ltb-false _ _ long.0; clean = (passed _ 18 _ long.1).0 }

  pub scratch_not_refused : Clean → first_of (scratch_checks c scratch) ≡ 0
  unfolding scratch_checks
  scratch_not_refused k = sym (goes 13 _ (le-ltb _ _ k.room) (goes 19 _ k.clean none_applies))

-- a cleared scratch that is long enough
pub cleared : (c : Case) (size : ℕ) → scratch_length c.method c.n ≤ size → Clean c (replicate size 0)
cleared c size h =
    let k = scratch_length c.method c.n in
    let rest : List ℕ = replicate (size - k) 0 in
    let all : List ℕ = replicate size 0 in
    let sum : k + (size - k) ≡ size = omega (arith, h) in
    let parts : replicate k 0 ++ rest ≡ all = replicate-append-replicate k (size - k) 0 ∙ ap (λ i. replicate i 0) sum in
    let front : take k all ≡ replicate k 0 = rw (← parts) (take_at (replicate k 0) rest k (length-replicate k 0)) in
    record { room = simp length-replicate h; clean = zeros_clean k _ front }

-- and the check of the log
pub log_not_refused : (c : Case) (lent : List ℕ) → log_length c.method c.n ≤ length lent → first_of (log_checks c lent) ≡ 0
unfolding log_checks
log_not_refused c lent h = sym (goes 14 _ (le-ltb _ _ h) none_applies)

-- each check has its number
pub masks_numbered : (c : Case) → numbered (mask_checks c) ≡ true
unfolding numbered mask_checks
masks_numbered c = refl

pub buffers_numbered : (c : Case) (scratch : List ℕ) → numbered (mask_checks c ++ scratch_checks c scratch) ≡ true
unfolding numbered mask_checks scratch_checks
buffers_numbered c scratch = refl

pub other_numbered : (c : Case) (scratch lent : List ℕ) → numbered (other_checks c scratch lent) ≡ true
unfolding numbered other_checks mask_checks scratch_checks log_checks
other_numbered c scratch lent = refl

pub masks_passed : (c : Case) (scratch lent : List ℕ) → first_of (other_checks c scratch lent) ≡ 0 → first_of (mask_checks c) ≡ 0
unfolding other_checks
masks_passed c scratch lent e =
    let before = (passed_both (mask_checks c ++ scratch_checks c scratch) (log_checks c lent) (buffers_numbered c scratch) e).0 in
    (passed_both (mask_checks c) (scratch_checks c scratch) (masks_numbered c) before).0

module _ (c : Case) (table : List ℕ) where
  pub case_numbered : numbered (case_checks c table) ≡ true
  unfolding numbered case_checks box_checks method_checks table_checks mask_checks
  case_numbered = refl

  pub box_numbered : numbered (box_checks c table) ≡ true
  unfolding numbered box_checks method_checks table_checks
  box_numbered = refl

  pub case_by_parts : first_of (box_checks c table) ≡ 0 → first_of (mask_checks c) ≡ 0 → case_refusal c table ≡ 0
  unfolding case_refusal case_checks
  case_by_parts e f = sym (goes_both (box_checks c table) (mask_checks c) box_numbered (sym e) (sym f))

  pub case_parts : case_refusal c table ≡ 0 → (first_of (box_checks c table) ≡ 0) × (first_of (mask_checks c) ≡ 0)
  unfolding case_refusal case_checks
  case_parts e = passed_both (box_checks c table) (mask_checks c) box_numbered e

  pub box_accepted : first_of (box_checks c table) ≡ 0 → (known c.method ≡ true) × Table c.n c.m table
  unfolding box_checks method_checks table_refusal
  box_accepted e =
      let method = passed _ 1 _ e in
      (not-false _ method.0, table_accepted c.n c.m table method.1)

  module _ (scratch : List ℕ) where
    pub plain_numbered : numbered (case_checks c table ++ scratch_checks c scratch) ≡ true
    unfolding numbered case_checks box_checks method_checks table_checks mask_checks scratch_checks
    plain_numbered = refl

    pub plain_case : plain_refusal c table scratch ≡ 0 → (case_refusal c table ≡ 0) × (first_of (scratch_checks c scratch) ≡ 0)
    unfolding case_refusal plain_refusal
    plain_case e = passed_both (case_checks c table) (scratch_checks c scratch) case_numbered e

    pub zeros_before : plain_refusal c table scratch ≡ 0
        → take (scratch_length c.method c.n) scratch ≡ replicate (scratch_length c.method c.n) 0
    zeros_before e =
        let k = scratch_accepted c scratch (plain_case e).1 in
        clean_zeros _ scratch k.room k.clean

    pub logged_plain : (lent : List ℕ) → logged_refusal c table scratch lent ≡ 0
        → (plain_refusal c table scratch ≡ 0) × (first_of (log_checks c lent) ≡ 0)
    unfolding plain_refusal logged_refusal
    logged_plain lent e = passed_both (case_checks c table ++ scratch_checks c scratch) (log_checks c lent) plain_numbered e

    pub logged_case : (lent : List ℕ) → logged_refusal c table scratch lent ≡ 0 → case_refusal c table ≡ 0
    logged_case lent e = (plain_case (logged_plain lent e).0).0

    -- a scratch and a log that are not refused leave the number to the case
    pub plain_by_case : Clean c scratch → plain_refusal c table scratch ≡ case_refusal c table
    unfolding case_refusal plain_refusal
    plain_by_case k = none_behind (case_checks c table) (scratch_checks c scratch) (scratch_not_refused c scratch k)

    pub logged_by_plain : (lent : List ℕ) → first_of (log_checks c lent) ≡ 0 → logged_refusal c table scratch lent ≡ plain_refusal c table scratch
    unfolding plain_refusal logged_refusal
    logged_by_plain lent e = none_behind (case_checks c table ++ scratch_checks c scratch) (log_checks c lent) e

    -- a refused case has its number, whatever the scratch and the log
    pub refused_by_case : (lent : List ℕ) (k : ℕ) → k ≡ case_refusal c table → (k ≡ 0 → ⊥) → k ≡ logged_refusal c table scratch lent
    unfolding case_refusal logged_refusal
    refused_by_case lent k e h = stops_both _ (log_checks c lent) (stops_both (case_checks c table) (scratch_checks c scratch) e h) h

    -- an accepted case leaves the number to scratch and log
    pub logged_by_rest : (lent : List ℕ) → case_refusal c table ≡ 0
        → logged_refusal c table scratch lent ≡ first_of (scratch_checks c scratch ++ log_checks c lent)
    unfolding case_refusal logged_refusal
    logged_by_rest lent e =
        ap first_of (append_assoc (case_checks c table) (scratch_checks c scratch) (log_checks c lent))
        ∙ none_before (case_checks c table) (scratch_checks c scratch ++ log_checks c lent) case_numbered e

    -- the logged call's checks in two parts, 2 to 7 and the others
    pub logged_parts : (lent : List ℕ) → logged_refusal c table scratch lent ≡ first_of (box_checks c table ++ other_checks c scratch lent)
    unfolding logged_refusal case_checks other_checks
    logged_parts lent =
        let box = box_checks c table in
        ap first_of
        (append_assoc (box ++ mask_checks c) (scratch_checks c scratch) (log_checks c lent)
        ∙ append_assoc box (mask_checks c) (scratch_checks c scratch ++ log_checks c lent)
        ∙ ap (λ checks. box ++ checks) (sym (append_assoc (mask_checks c) (scratch_checks c scratch) (log_checks c lent))))

    pub parts_passed : (lent : List ℕ) → logged_refusal c table scratch lent ≡ 0
        → (first_of (box_checks c table) ≡ 0) × (first_of (other_checks c scratch lent) ≡ 0)
    parts_passed lent e = passed_both (box_checks c table) (other_checks c scratch lent) box_numbered (sym (logged_parts lent) ∙ e)

    pub logged_by_parts : (lent : List ℕ) → first_of (box_checks c table) ≡ 0 → first_of (other_checks c scratch lent) ≡ 0
        → logged_refusal c table scratch lent ≡ 0
    logged_by_parts lent e f =
        logged_parts lent ∙ sym (goes_both (box_checks c table) (other_checks c scratch lent) box_numbered (sym e) (sym f))
