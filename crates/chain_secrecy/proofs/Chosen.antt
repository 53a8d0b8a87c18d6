-- A chain's choice is a choice of each of its calls: the first's six masks, and for the second the first's s1 and s2 before its own four.
use mathlib.Core.Path.{◌≡◌, sym, ap, subst, ◌∙◌}
use mathlib.Core.Bool.{true}
use mathlib.Core.List.{List, ◌∷◌, map}
use Prim.Native.Nat.{ℕ, ◌+◌, ◌^◌, ◌<◌}
use lib.ListN.{length, drop, length-map}
use Rattle.bits.specs.Xor.{◌⊕◌}
use Rattle.bits.proofs.Xor.{below, xors}
use Rattle.counting.specs.Choice.{◌▸◌, Within}
use Rattle.counting.proofs.Choice.{within_more}
use Rattle.counting.proofs.Append.{appended, within_first, within_behind}
use Rattle.table.specs.Balanced.{at}
use Rattle.lookup.specs.Case.{Q}
use Rattle.lookup.specs.Row.{masked}
use Rattle.lookup.specs.Method.{class_width}
use Rattle.lookup.specs.Methods.{known, method_of}
use Rattle.lookup.specs.Call.{answer}
use Rattle.lookup.proofs.Methods.{of_each}
use Rattle.lookup.proofs.Right.{right}
use Rattle.secrecy.specs.Count.{chosen_case, mask_widths}
use Rattle.secrecy.proofs.Hiding.{Hiding, Drawn}
use Rattle.chain.specs.Chain.{second_case, following}
use Rattle.chain_secrecy.specs.Count.{Boxes, behind, chain_widths, first_case, second_own}

-- each call's masks alone, as a single call's choice
abbrev pub first_masks : (ℕ → ℕ) → ℕ → ℕ
first_masks c = appended 6 c (λ i. 0)

abbrev pub second_masks : (ℕ → ℕ) → ℕ → ℕ
second_masks c = c 3 ▸ c 4 ▸ (λ i. c (6 + i))

module _ (k : Boxes) (one : Hiding (method_of k.first_method)) (two : Hiding (method_of k.second_method)) where
  abbrev ws : List ℕ
  ws = mask_widths k.first_method k.input k.between

  abbrev vs : List ℕ
  vs = mask_widths k.second_method k.between k.output

  pub six : length ws ≡ 6
  unfolding mask_widths
  six = length-map (method_of k.first_method).mask_classes (class_width k.input k.between) ∙ one.six

  -- the second's widths begin with those of r1 and r2
  pub inputs : k.between ∷ k.between ∷ drop 2 vs ≡ vs
  unfolding mask_widths
  inputs =
      let widths = map (class_width k.between k.output) in
      let whole : k.between ∷ k.between ∷ widths (drop 2 (method_of k.second_method).mask_classes) ≡ vs = ap widths two.inputs in
      ap (λ vs. k.between ∷ k.between ∷ drop 2 vs) (sym whole) ∙ whole

  module _ (c : ℕ → ℕ) (inside : Within (chain_widths k) c) where
    pub first_within : Within ws (first_masks c)
    unfolding chain_widths
    first_within = subst (λ (masks : ℕ). Within ws (appended masks c (λ i. 0))) six (within_first ws _ c inside)

    pub first_drawn : Drawn (method_of k.first_method) k.input k.between (first_masks c)
    unfolding mask_widths
    first_drawn = one.drawn k.input k.between (first_masks c) first_within

    pub second_within : Within vs (second_masks c)
    unfolding chain_widths
    second_within =
        let own = subst (λ (masks : ℕ). Within (drop 2 vs) (λ i. c (masks + i))) six (within_behind ws _ c inside) in
        subst (λ (widths : List ℕ). Within widths (second_masks c)) inputs (within_more first_drawn.s1 (within_more first_drawn.s2 own))

    pub second_drawn : Drawn (method_of k.second_method) k.between k.output (second_masks c)
    unfolding mask_widths
    second_drawn = two.drawn k.between k.output (second_masks c) second_within

    -- the first answers with S[x] under its output masks, so the second's case is that of a single call with input S[x]
    module _ (S : List ℕ) (x : ℕ) (hx : x < 2 ^ k.input) (known_first : known k.first_method ≡ true) where
      answer_chosen : answer (first_case k x c) S ≡ at S x ⊕ c 3 ⊕ c 4
      unfolding answer first_case chosen_case masked Q
      answer_chosen =
          let d = first_drawn in
          let back : x ⊕ c 0 ⊕ c 1 ⊕ (c 0 ⊕ c 1) ≡ x = simp xors in
          (of_each k.first_method right known_first).answers (first_case k x c) S
          (below k.input (below k.input hx d.r1) d.r2) d.r1 d.r2 d.r3 d.b
          ∙ rw back

      pub following_chosen : following (first_case k x c) (second_own k c) S
          ≡ chosen_case behind k.second_method k.between k.output (at S x) c
      unfolding following second_case first_case second_own chosen_case
      following_chosen = ap (second_case (first_case k x c) (second_own k c)) answer_chosen
