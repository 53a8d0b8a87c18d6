-- Two entries of a selection's log tell nothing of its word and its bit.
use mathlib.Core.Path.{◌≡◌, ap, ◌∙◌}
use Prim.Native.Nat.{◌+◌, ◌*◌, ◌^◌}
use native.Mathlib.Omega.{arith}
use Rattle.bits.specs.Xor.{◌⊕◌}
use Rattle.bits.proofs.Xor.{xors, below}
use Rattle.counting.specs.Choice.{◌▸◌, total}
use Rattle.counting.proofs.Choice.{within_none, within_more}
use Rattle.counting.proofs.Over.{choices}
use Rattle.probing.proofs.Sound.{alike}
use Rattle.selection.proofs.Accepted.{plain_bounded, logged_parts}
use Rattle.selection_secrecy.specs.Count.{selection_widths, chosen_selection}
use Rattle.selection_secrecy.specs.Promises.{SelectionTellsNothing, ChoicesCounted, AcceptedChosen}
use Rattle.selection_secrecy.specs.Expressions.{system, setting}
use Rattle.selection_secrecy.proofs.Fine.{any_two}
use Rattle.selection_secrecy.proofs.Observed.{known, counts_equal}

pub selection_tells_nothing : SelectionTellsNothing
unfolding SelectionTellsNothing
selection_tells_nothing l z z' c c' i j u v hz hz' hc hc' =
    counts_equal l z z' c c' i j u v hc hc' (alike system (setting l) (known l z z' c c' hz hz' hc hc') _ _ (any_two i j))

pub choices_counted : ChoicesCounted
unfolding ChoicesCounted selection_widths total
choices_counted l =
    let all : total (selection_widths l) ≡ 6 * l + 3 = omega arith in
    choices (selection_widths l) ∙ ap (λ k. 2 ^ k) all

pub accepted_chosen : AcceptedChosen
unfolding AcceptedChosen chosen_selection selection_widths
accepted_chosen lent s e =
    let k = plain_bounded s (logged_parts s lent e).0 in
    let z0 : s.z0 ⊕ s.z1 ⊕ s.z2 ⊕ s.z1 ⊕ s.z2 ≡ s.z0 = simp xors in
    let c0 : s.c0 ⊕ s.c1 ⊕ s.c2 ⊕ s.c1 ⊕ s.c2 ≡ s.c0 = simp xors in (
      below _ (below _ k.z0 k.z1) k.z2,
      below 1 (below 1 k.c0 k.c1) k.c2,
      s.z1 ▸ s.z2 ▸ s.c1 ▸ s.c2 ▸ s.t1 ▸ s.t2 ▸ s.b ▸ (λ i. 0),
      within_more k.z1 (within_more k.z2 (within_more k.c1 (within_more k.c2
          (within_more k.t1 (within_more k.t2 (within_more k.b within_none)))))),
      rw (z0, c0),
    )
