-- A chain is accepted just where both of its calls are, one after the other, and the widths between them agree.
use mathlib.Core.Path.{◌≡◌, refl, sym, ap, ap₂, ◌∙◌}
use mathlib.Core.Bool.{not}
use mathlib.Core.List.{List, ◌++◌, append_assoc}
use Prim.Native.Nat.{ℕ}
use borrow.Author.Tests.{eqb-true, eq-eqb, not-false}
use lib.Dec.{eqb}
use Rattle.refusals.specs.Checks.{Check, first_of}
use Rattle.refusals.proofs.Checks.{passed, passed_both, goes, goes_both, none_before, none_between}
use Rattle.lookup.specs.declared.Case.{Case}
use Rattle.lookup.specs.Refusals.{mask_checks, scratch_checks, log_checks, box_checks, other_checks, case_refusal, logged_refusal}
use Rattle.lookup.proofs.Refused.{masks_numbered, box_numbered, other_numbered, case_parts, parts_passed, logged_by_parts}
use Rattle.chain.specs.declared.Second.{Second}
use Rattle.chain.specs.Lent.{lent}
use Rattle.chain.specs.Chain.{following, chain_refusal}
use Rattle.chain.proofs.Checking.{chain_parts}

-- the checks of a call's scratch and log
abbrev pub lent_checks : Case → (scratch log : List ℕ) → List Check
lent_checks c scratch log = scratch_checks c scratch ++ log_checks c log

module _ (first : Case) (second : Second) (S T scratch scratch' log log' : List ℕ) where
  abbrev later : Case
  later = following first second S

  -- what an accepted chain has passed
  pub record Passed : Type 0 where
    pub first_accepted : logged_refusal first S scratch log ≡ 0
    pub widths_agree : first.m ≡ second.n
    pub second_accepted : logged_refusal later T scratch' log' ≡ 0

  pub chain_passed : chain_refusal first second (lent S T scratch scratch' log log') ≡ 0 → Passed
  chain_passed e =
      let box = passed_both (box_checks first S) _ (box_numbered first S) (sym (chain_parts first second S T scratch scratch' log log') ∙ e) in
      let box' = passed_both (box_checks later T) _ (box_numbered later T) box.1 in
      let widths = passed (not (eqb first.m second.n)) 17 _ box'.1 in
      let others = passed_both (other_checks first scratch log) _ (other_numbered first scratch log) widths.1 in
      record {
        first_accepted = logged_by_parts first S scratch log box.0 others.0;
        widths_agree = eqb-true _ _ (not-false _ widths.0);
        second_accepted = logged_by_parts later T scratch' log' box'.0 others.1;
      }

  -- and nothing else is asked of it
  pub chain_accepted : Passed → chain_refusal first second (lent S T scratch scratch' log log') ≡ 0
  chain_accepted k =
      let one = parts_passed first S scratch log k.first_accepted in
      let two = parts_passed later T scratch' log' k.second_accepted in
      let others = goes_both (other_checks first scratch log) _ (other_numbered first scratch log) (sym one.1) (sym two.1) in
      let widths = goes 18 _ (ap not (eq-eqb _ _ k.widths_agree)) others in
      let boxes = goes_both (box_checks later T) _ (box_numbered later T) (sym two.0) widths in
      chain_parts first second S T scratch scratch' log log'
      ∙ sym (goes_both (box_checks first S) _ (box_numbered first S) (sym one.0) boxes)

  -- cases that are accepted leave the number to the scratches and the logs
  others_apart : other_checks first scratch log ++ other_checks later scratch' log'
      ≡ mask_checks first ++ (lent_checks first scratch log ++ (mask_checks later ++ lent_checks later scratch' log'))
  unfolding other_checks
  others_apart =
      let whole : (c : Case) (scratch log : List ℕ) → other_checks c scratch log ≡ mask_checks c ++ lent_checks c scratch log
      = λ c scratch log. append_assoc (mask_checks c) (scratch_checks c scratch) (log_checks c log) in
      ap₂ ◌++◌ (whole first scratch log) (whole later scratch' log')
      ∙ append_assoc (mask_checks first) (lent_checks first scratch log) (mask_checks later ++ lent_checks later scratch' log')

  pub chain_by_lent : case_refusal first S ≡ 0 → first.m ≡ second.n → case_refusal later T ≡ 0
      → chain_refusal first second (lent S T scratch scratch' log log')
      ≡ first_of (lent_checks first scratch log ++ lent_checks later scratch' log')
  chain_by_lent e widths f =
      let one = case_parts first S e in
      let two = case_parts later T f in
      chain_parts first second S T scratch scratch' log log'
      ∙ none_before (box_checks first S) _ (box_numbered first S) one.0
      ∙ none_before (box_checks later T) _ (box_numbered later T) two.0
      ∙ sym (goes 18 _ (ap not (eq-eqb _ _ widths)) refl)
      ∙ ap first_of others_apart
      ∙ none_before (mask_checks first) _ (masks_numbered first) one.1
      ∙ none_between (lent_checks first scratch log) (mask_checks later) _ (masks_numbered later) two.1
