-- The list of a chain's checks, part by part, as the code goes through it; and that the second's do not need the first's answer.
use mathlib.Core.Path.{◌≡◌, refl, sym, ap, subst, ◌∙◌}
use mathlib.Core.Bool.{not}
use mathlib.Core.List.{List, [], ◌∷◌, ◌++◌, append_assoc}
use Prim.Native.Nat.{ℕ, ◌^◌, ◌<◌}
use borrow.Author.Tests.{eq-eqb, ne_eqb, lt-leb}
use lib.Dec.{eqb}
use lib.Pow.{pow_pos}
use Rattle.refusals.specs.Checks.{Check, ◌when◌, first_of}
use Rattle.refusals.specs.Tests.{any_from}
use Rattle.refusals.proofs.Checks.{stops, goes, stops_both, goes_both}
use Rattle.lookup.specs.declared.Case.{Case}
use Rattle.lookup.specs.Case.{Q}
use Rattle.lookup.specs.Call.{answer}
use Rattle.lookup.specs.Refusals.{method_checks, mask_checks, untaken, scratch_checks, log_checks, box_checks, other_checks}
use Rattle.lookup.specs.Promises.{AnswerSmall}
use Rattle.lookup.proofs.Refused.{box_numbered, other_numbered, masks_passed, case_by_parts}
use Rattle.lookup.proofs.Promises.{answer_small}
use Rattle.chain.specs.declared.Second.{Second}
use Rattle.chain.specs.Lent.{lent}
use Rattle.chain.specs.Chain.{second_case, following, chain_checks, chain_refusal}

module _ (first : Case) (second : Second) where
  -- the second's 2 to 7 are the same whatever the first answers
  pub box_unseen : (share : ℕ) (table : List ℕ)
      → box_checks (second_case first second 0) table ≡ box_checks (second_case first second share) table
  unfolding second_case box_checks method_checks
  box_unseen share table = refl

  -- and so are its other checks, where the answer has the width of its input
  pub other_unseen : (share : ℕ) (scratch log : List ℕ) → share < 2 ^ second.n
      → other_checks (second_case first second 0) scratch log ≡ other_checks (second_case first second share) scratch log
  unfolding second_case other_checks mask_checks untaken scratch_checks log_checks Q any_from
  other_unseen share scratch log h = rw (lt-leb (2 ^ second.n) share h, lt-leb (2 ^ second.n) 0 (pow_pos second.n))

  -- the first's answer has that width
  pub answer_fits : (S scratch log : List ℕ) → first_of (box_checks first S) ≡ 0 → first.m ≡ second.n
      → first_of (other_checks first scratch log) ≡ 0 → answer first S < 2 ^ second.n
  unfolding AnswerSmall
  answer_fits S scratch log e w f =
      let small = answer_small S first (case_by_parts first S e (masks_passed first scratch log f)) in
      subst (λ (width : ℕ). answer first S < 2 ^ width) w small

  module _ (S T scratch scratch' log log' : List ℕ) where
    abbrev whole : ℕ
    whole = chain_refusal first second (lent S T scratch scratch' log log')

    abbrev box : List Check
    box = box_checks first S

    abbrev box' : List Check
    box' = box_checks (following first second S) T

    abbrev widths : Check
    widths = 18 when (not (eqb first.m second.n))

    abbrev other : List Check
    other = other_checks first scratch log

    abbrev other' : List Check
    other' = other_checks (following first second S) scratch' log'

    -- the parts one after the other
    pub chain_parts : whole ≡ first_of (box ++ (box' ++ (widths ∷ (other ++ other'))))
    unfolding chain_refusal chain_checks
    chain_parts =
        ap first_of
        (append_assoc (box ++ box' ++ (widths ∷ [])) other other'
        ∙ append_assoc (box ++ box') (widths ∷ []) (other ++ other')
        ∙ append_assoc box box' (widths ∷ (other ++ other')))

    module _ (later : Case) (same : later ≡ second_case first second 0) where
      pub at_first_box : (j : ℕ) → j ≡ first_of box → (j ≡ 0 → ⊥) → j ≡ whole
      at_first_box j told h = stops_both box _ told h ∙ sym chain_parts

      box_told : {k : ℕ} → k ≡ first_of (box_checks later T) → k ≡ first_of box'
      unfolding following
      box_told told = told ∙ ap first_of (ap (λ c. box_checks c T) same ∙ box_unseen (answer first S) T)

      -- the first's box has passed
      module _ (told : 0 ≡ first_of box) where
        behind_first_box : {r : ℕ} → r ≡ first_of (box' ++ (widths ∷ (other ++ other'))) → r ≡ whole
        behind_first_box h = goes_both box _ (box_numbered first S) told h ∙ sym chain_parts

        pub at_second_box : (k : ℕ) → k ≡ first_of (box_checks later T) → (k ≡ 0 → ⊥) → k ≡ whole
        at_second_box k told' h = behind_first_box (stops_both box' _ (box_told told') h)

        -- and the second's
        module _ (told' : 0 ≡ first_of (box_checks later T)) where
          behind_boxes : {r : ℕ} → r ≡ first_of (widths ∷ (other ++ other')) → r ≡ whole
          behind_boxes h = behind_first_box (goes_both box' _ (box_numbered (following first second S) T) (box_told told') h)

          pub at_18 : (first.m ≡ second.n → ⊥) → 18 ≡ whole
          at_18 h = behind_boxes (stops 18 _ (ap not (ne_eqb _ _ h)))

          -- and the widths are equal
          module _ (w : first.m ≡ second.n) where
            behind_18 : {r : ℕ} → r ≡ first_of (other ++ other') → r ≡ whole
            behind_18 h = behind_boxes (goes 18 _ (ap not (eq-eqb _ _ w)) h)

            pub at_first_other : (p : ℕ) → p ≡ first_of other → (p ≡ 0 → ⊥) → p ≡ whole
            at_first_other p told_other h = behind_18 (stops_both other other' told_other h)

            pub at_second_other : (r : ℕ) → 0 ≡ first_of other → r ≡ first_of (other_checks later scratch' log') → r ≡ whole
            unfolding following
            at_second_other r told_other e =
                let fits = answer_fits S scratch log (sym told) w (sym told_other) in
                let unseen = ap (λ c. other_checks c scratch' log') same ∙ other_unseen (answer first S) scratch' log' fits in
                behind_18 (goes_both other other' (other_numbered first scratch log) told_other (e ∙ ap first_of unseen))
