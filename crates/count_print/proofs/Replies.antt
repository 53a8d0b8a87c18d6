-- What the count sheet's call told, and the print that answers it.
use mathlib.Core.Path.{◌≡◌, sym, ap, ◌∙◌}
use mathlib.Core.List.{List, [], ◌∷◌}
use Prim.Native.Nat.{ℕ, max, ◌+◌, ◌*◌, ◌^◌, ◌≤◌, ◌<◌}
use native.Mathlib.Nat.{mul-le-mul}
use native.Mathlib.Omega.{arith}
use borrow.Author.Tests.{eq-eqb, ne_eqb}
use lib.ListN.{length, take, replicate, length-take}
use lib.Seq.{take_at}
use Rattle.buffers.specs.Written.{in_front}
use Rattle.refusals.specs.declared.Refusal.{Refusal}
use Rattle.refusals.specs.Numbers.{number_of}
use Rattle.refusals.proofs.Numbers.{not_zero}
use Rattle.refusals.specs.Left.{left}
use Rattle.table.proofs.Tabulate.{tabulate_long}
use Rattle.log_print.specs.Lines.{line_of, count_lines}
use Rattle.count_sheet.specs.declared.ProbePair.{ProbePair}
use Rattle.count_sheet.specs.Refusals.{value_width, count_refusal}
use Rattle.count_sheet.specs.Sheet.{counts, sheet_left}
use Rattle.count_sheet.proofs.Checking.{accepted}
use Rattle.count_sheet.proofs.Places.{squared}
use Rattle.count_print.specs.Print.{print_refusal, reply}
use Rattle.count_print.proofs.Refusals.{width_small, side_most}

-- refused
pub refused : (p : ProbePair) (table : List ℕ) (refusal : Refusal)
    → number_of refusal ≡ count_refusal p table (replicate 512 0) (replicate 2400 0) (replicate 64 0)
    → reply p table ≡ line_of 6 (number_of refusal ∷ [])
unfolding reply print_refusal
refused p table refusal told = rw (← told, ne_eqb _ 0 (not_zero refusal))

module _ (p : ProbePair) (table : List ℕ) (refusal : ℕ)
    (told : refusal ≡ count_refusal p table (replicate 512 0) (replicate 2400 0) (replicate 64 0)) where
  -- accepted
  module _ (z : refusal ≡ 0) (width : ℕ) (wide : width ≡ max p.n p.m) where
    small : value_width p ≤ 3
    small =
        let t = (accepted p table (replicate 512 0) (replicate 2400 0) (replicate 64 0) (sym told ∙ z)).countable in
        width_small p t.input t.output

    same_width : width ≡ value_width p
    unfolding value_width
    same_width = wide

    pub power_known : width < 32
    power_known = omega (arith, same_width, small)

    module _ (side : ℕ) (powered : side ≡ 2 ^ width) where
      same_side : side ≡ 2 ^ value_width p
      same_side = powered ∙ rw same_width

      few : side ≤ 8
      few = omega (arith, same_side, side_most p small)

      pub lines_room : (output : List ℕ) → length output ≡ 1024 → side * (8 * side + 1) ≤ length output
      lines_room output l =
          let most : side * (8 * side + 1) ≤ 8 * 65 = mul-le-mul {m₂ = 65} few (omega (arith, few)) in
          omega arith

      module _ (sheet : List ℕ) (left_is : sheet ≡ sheet_left p table (replicate 512 0) (replicate 2400 0) (replicate 64 0)) where
        counts_long : length (counts table p) ≡ side * side
        unfolding counts
        counts_long = tabulate_long _ _ ∙ squared (value_width p) ∙ rw same_side

        -- the counts stand in front
        counts_lent : take (side * side) sheet ≡ counts table p
        unfolding sheet_left left in_front
        counts_lent = rw (left_is, sym told ∙ z) (take_at (counts table p) _ (side * side) counts_long)

        pub square_lent : side * side ≡ length (take (side * side) sheet)
        square_lent = sym (ap length counts_lent ∙ counts_long)

        pub square_within : side * side ≤ length sheet
        square_within = omega (arith, square_lent, length-take (side * side) sheet)

        pub lent_square : length (take (side * side) sheet) ≡ side * side
        lent_square = sym square_lent

        pub answered : reply p table ≡ count_lines side side (take (side * side) sheet)
        unfolding reply print_refusal
        answered = rw (counts_lent, same_side, eq-eqb _ 0 (sym told ∙ z))

-- what `reply` is proved by
pub ruleset reply_laws = (refused, power_known, lines_room, square_lent, square_within, lent_square, answered)
