-- What is promised of a chained call holds.
use mathlib.Core.Path.{◌≡◌, refl, sym, ap, subst, ◌∙◌}
use mathlib.Core.Bool.{Bool, true, false, not, cond, or-false}
use mathlib.Core.List.{List, [], ◌∷◌}
use Prim.Native.Nat.{ℕ, ◌^◌, ◌≤◌, ◌<◌}
use borrow.Author.Tests.{le-leb, leb-true, lt-leb, eq-eqb}
use lib.Dec.{leb}
use lib.ListN.{drop}
use Rattle.refusals.specs.Checks.{Check, first_of}
use Rattle.refusals.specs.Tests.{any_from}
use Rattle.refusals.specs.Left.{left}
use Rattle.refusals.proofs.Checks.{none_before, goes, without, never}
use Rattle.table.specs.Balanced.{at}
use Rattle.lookup.specs.declared.Case.{Case}
use Rattle.lookup.specs.Case.{Q}
use Rattle.lookup.specs.Call.{answer}
use Rattle.lookup.specs.Refusals.{mask_checks, scratch_checks, log_checks, box_checks, other_checks, logged_refusal}
use Rattle.lookup.specs.Promises.{AnswerRight, AnswerSmall}
use Rattle.lookup.proofs.Refused.{logged_case, box_numbered, other_numbered, parts_passed}
use Rattle.lookup.proofs.Accepted.{accepted}
use Rattle.lookup.proofs.Promises.{answer_right, answer_small}
use Rattle.calls.specs.Reply.{called, logged_reply, logged_scratch, logged_log}
use Rattle.calls.specs.Promises.{LeftAsNarrow}
use Rattle.calls.proofs.Promises.{left_as_narrow}
use Rattle.chain.specs.declared.Second.{Second}
use Rattle.chain.specs.Lent.{Lent}
use Rattle.chain.specs.Chain.{second_case, following, chained, chain_refusal, chain_reply}
use Rattle.chain.specs.Chain.{chain_first_scratch, chain_second_scratch, chain_first_log, chain_second_log}
use Rattle.chain.specs.Promises.{then_case, ShareRight, ShareSmall, RefusedKept, AcceptedAsTwo, LeftAsTwo}
use Rattle.chain.specs.Promises.{TenByR3, ChainAsNarrow}
use Rattle.chain.proofs.Checking.{answer_fits, chain_parts}
use Rattle.chain.proofs.Accepted.{Passed, chain_passed, chain_accepted}
use Rattle.chain.proofs.Replies.{refused_reply, first_scratch_kept, second_scratch_kept, first_log_kept, second_log_kept}

module _ (first : Case) (second : Second) (l : Lent) where
  abbrev Both : Type 0
  Both = Passed first second l.first_table l.second_table l.first_scratch l.second_scratch l.first_log l.second_log

  both : chain_refusal first second l ≡ 0 → Both
  both e = chain_passed first second _ _ _ _ _ _ e

  -- where the first is accepted, it hands back its answer
  then_following : logged_refusal first l.first_table l.first_scratch l.first_log ≡ 0
      → then_case first second l ≡ following first second l.first_table
  unfolding following logged_reply called
  then_following e = ap (second_case first second) (rw e)

pub share_right : ShareRight
unfolding ShareRight AnswerRight chain_reply chained following second_case
share_right first second l e =
    let k = both first second l e in
    let S = l.first_table in
    let later = following first second S in
    let one = answer_right S first (logged_case first S _ _ k.first_accepted) in
    let two = answer_right l.second_table later (logged_case later l.second_table _ _ k.second_accepted) in
    rw e (two ∙ ap (at l.second_table) one)

pub share_small : ShareSmall
unfolding ShareSmall AnswerSmall chain_reply chained following second_case
share_small first second l e =
    let later = following first second l.first_table in
    rw e (answer_small l.second_table later (logged_case later l.second_table _ _ (both first second l e).second_accepted))

pub refused_kept : RefusedKept
unfolding RefusedKept
refused_kept first second l h = (
  sym (refused_reply first second _ _ _ _ _ _ _ refl h),
  sym (first_scratch_kept first second _ _ _ _ _ _ _ refl h),
  sym (second_scratch_kept first second _ _ _ _ _ _ _ refl h),
  sym (first_log_kept first second _ _ _ _ _ _ _ refl h),
  sym (second_log_kept first second _ _ _ _ _ _ _ refl h),
)

pub accepted_as_two : AcceptedAsTwo
unfolding AcceptedAsTwo
accepted_as_two first second l =
    let refusal : Case → ℕ = λ c. logged_refusal c l.second_table l.second_scratch l.second_log in (
      λ e.
          let k = both first second l e in
          (k.first_accepted, k.widths_agree, ap refusal (then_following first second l k.first_accepted) ∙ k.second_accepted),
      λ one widths two.
          let later = sym (ap refusal (then_following first second l one)) ∙ two in
          chain_accepted first second _ _ _ _ _ _ (record { first_accepted = one; widths_agree = widths; second_accepted = later }),
    )

pub left_as_two : LeftAsTwo
unfolding LeftAsTwo chain_reply chained logged_reply called left chain_first_scratch chain_second_scratch chain_first_log chain_second_log
    logged_scratch logged_log following second_case
left_as_two first second l e =
    let k = both first second l e in (
      rw (e, k.first_accepted, k.second_accepted),
      rw (e, k.first_accepted),
      rw (e, k.first_accepted, k.second_accepted),
      rw (e, k.first_accepted),
      rw (e, k.first_accepted, k.second_accepted),
      rw (e, k.first_accepted),
      rw (e, k.first_accepted, k.second_accepted),
    )

pub chain_as_narrow : ChainAsNarrow
unfolding ChainAsNarrow AcceptedAsTwo LeftAsTwo LeftAsNarrow second_case
chain_as_narrow first second l e =
    let two = (accepted_as_two first second l).0 e in
    let left = left_as_two first second l e in (
      λ i h. rw left.5 (left_as_narrow l.first_table l.first_scratch l.first_log first two.0 i h),
      λ i h.
          rw left.6
          (left_as_narrow l.second_table l.second_scratch l.second_log (then_case first second l) two.2 i h),
    )

-- the second's other checks: 10 by its r3, and then others
module _ (first : Case) (second : Second) (S scratch log scratch' log' : List ℕ)
    (e : logged_refusal first S scratch log ≡ 0) (widths : first.m ≡ second.n) where
  only_r3 : any_from (2 ^ second.n) (answer first S ∷ first.s1 ∷ first.s2 ∷ second.r3 ∷ []) ≡ leb (2 ^ second.n) second.r3
  unfolding any_from
  only_r3 =
      let parts = parts_passed first S scratch log e in
      let taken = (accepted first S (logged_case first S scratch log e)).1 in
      let fits : (v : ℕ) → v < 2 ^ first.m → leb (2 ^ second.n) v ≡ false
      = λ v h. lt-leb (2 ^ second.n) v (subst (λ (width : ℕ). v < 2 ^ width) widths h) in
      let answered = lt-leb (2 ^ second.n) (answer first S) (answer_fits first second S scratch log parts.0 widths parts.1) in
      rw (answered, fits first.s1 taken.s1, fits first.s2 taken.s2) (or-false _)

  unfoldable behind_10 : List Check
  behind_10 = drop 1 (other_checks (following first second S) scratch' log')

  not_10 : first_of behind_10 ≡ 10 → ⊥
  unfolding behind_10 without other_checks mask_checks scratch_checks log_checks
  not_10 = never 9 behind_10 refl

  by_r3 : first_of (other_checks (following first second S) scratch' log') ≡ cond (leb (2 ^ second.n) second.r3) 10 (first_of behind_10)
  unfolding behind_10 first_of other_checks mask_checks scratch_checks log_checks following second_case Q
  by_r3 = rw only_r3

pub ten_by_r3 : TenByR3
unfolding TenByR3
ten_by_r3 first second l e widths box' = (
  λ h. number ∙ ap (λ t. cond t 10 (first_of rest)) (le-leb _ _ h),
  λ ten. by_test (leb (2 ^ second.n) second.r3) refl (sym number ∙ ten),
)
  where
    S : List ℕ
    S = l.first_table

    later : Case
    later = following first second S

    rest : List Check
    rest = behind_10 first second S l.first_scratch l.first_log l.second_scratch l.second_log e widths

    number : chain_refusal first second l ≡ cond (leb (2 ^ second.n) second.r3) 10 (first_of rest)
    number =
        let one = parts_passed first S l.first_scratch l.first_log e in
        let two = ap (λ c. first_of (box_checks c l.second_table)) (sym (then_following first second l e)) ∙ box' in
        chain_parts first second S l.second_table l.first_scratch l.second_scratch l.first_log l.second_log
        ∙ none_before (box_checks first S) _ (box_numbered first S) one.0
        ∙ none_before (box_checks later l.second_table) _ (box_numbered later l.second_table) two
        ∙ sym (goes 18 _ (ap not (eq-eqb _ _ widths)) refl)
        ∙ none_before (other_checks first l.first_scratch l.first_log) _ (other_numbered first l.first_scratch l.first_log) one.1
        ∙ by_r3 first second S l.first_scratch l.first_log l.second_scratch l.second_log e widths

    by_test : (t : Bool) → leb (2 ^ second.n) second.r3 ≡ t → cond t 10 (first_of rest) ≡ 10 → 2 ^ second.n ≤ second.r3
    by_test true large f = leb-true _ _ large
    by_test false small f =
        absurd (not_10 first second S l.first_scratch l.first_log l.second_scratch l.second_log e widths f)
