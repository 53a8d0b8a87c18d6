-- Every chain that the call accepts is one of a choice that is counted.
use mathlib.Core.Path.{◌≡◌, sym, ap, subst}
use mathlib.Core.List.{List}
use Prim.Native.Nat.{ℕ, suc}
use lib.ListN.{drop}
use Rattle.bits.specs.Xor.{◌⊕◌}
use Rattle.counting.specs.Choice.{Within}
use Rattle.counting.proofs.Choice.{within_rest}
use Rattle.counting.proofs.Append.{appended, within_both}
use Rattle.lookup.specs.declared.Case.{Case}
use Rattle.lookup.proofs.Methods.{of_each}
use Rattle.lookup.proofs.Accepted.{Taken, accepted}
use Rattle.lookup.proofs.Refused.{logged_case}
use Rattle.secrecy.specs.Count.{chosen_case, mask_widths}
use Rattle.secrecy.proofs.Hiding.{hiding}
use Rattle.secrecy.proofs.Lent.{masks_of, case_chosen}
use Rattle.chain.specs.declared.Second.{Second}
use Rattle.chain.specs.Lent.{Lent}
use Rattle.chain.specs.Chain.{second_case, following, chain_refusal}
use Rattle.chain.proofs.Accepted.{Passed, chain_passed}
use Rattle.chain_secrecy.specs.Count.{Boxes, boxes_of, chain_widths, first_case, second_own}
use Rattle.chain_secrecy.specs.Promises.{AcceptedChainChosen}
use Rattle.chain_secrecy.proofs.Chosen.{six, inputs}

module _ (l : Lent) (c : Case) (d : Second) (e : chain_refusal c d l ≡ 0) where
  abbrev k : Boxes
  k = boxes_of c d

  abbrev later : Case
  later = following c d l.first_table

  both : Passed c d l.first_table l.second_table l.first_scratch l.second_scratch l.first_log l.second_log
  both = chain_passed c d _ _ _ _ _ _ e

  one : Taken c l.first_table
  one = accepted c l.first_table (logged_case c l.first_table _ _ both.first_accepted)

  two : Taken later l.second_table
  two = accepted later l.second_table (logged_case later l.second_table _ _ both.second_accepted)

  -- the first's masks, and behind them the second's without r1 and r2
  unfoldable masks : ℕ → ℕ
  masks = appended 6 (masks_of c) (λ i. masks_of later (suc (suc i)))

  masks_within : Within (chain_widths k) masks
  unfolding chain_widths masks following second_case
  masks_within =
      let hiding_first = of_each c.method hiding one.0 in
      let hiding_second = of_each d.method hiding two.0 in
      let vs = mask_widths d.method c.m d.m in
      let first = (case_chosen l.first_table c one).0 in
      let second = subst (λ (n : ℕ). Within (mask_widths d.method n d.m) (masks_of later)) (sym both.widths_agree)
      (case_chosen l.second_table later two).0 in
      let own = within_rest (within_rest (subst (λ (widths : List ℕ). Within widths (masks_of later)) (sym (inputs k hiding_first hiding_second)) second)) in
      subst (λ (places : ℕ). Within (chain_widths k) (appended places (masks_of c) (λ i. masks_of later (suc (suc i)))))
      (six k hiding_first hiding_second)
      (within_both (mask_widths c.method c.n c.m) (drop 2 vs) (masks_of c) (λ i. masks_of later (suc (suc i))) first own)

  first_chosen : first_case k (c.x0 ⊕ c.r1 ⊕ c.r2) masks ≡ c
  unfolding first_case chosen_case masks
  first_chosen = (case_chosen l.first_table c one).1

  second_chosen : second_own k masks ≡ d
  unfolding second_own masks following second_case
  second_chosen =
      ap (λ (n : ℕ). record { method = d.method; n = n; m = d.m; s1 = d.s1; s2 = d.s2; r3 = d.r3; b = d.b }) both.widths_agree

pub accepted_chain_chosen : AcceptedChainChosen
unfolding AcceptedChainChosen
accepted_chain_chosen l c d e = (masks l c d e, masks_within l c d e, first_chosen l c d e, second_chosen l c d e)
