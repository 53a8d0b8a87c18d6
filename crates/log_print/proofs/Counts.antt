-- How a count sheet is printed, line by line.
use mathlib.Core.Path.{◌≡◌, refl, sym, ap, ◌∙◌}
use mathlib.Core.List.{List, ◌++◌}
use Prim.Native.Nat.{ℕ, zero, suc, ◌+◌, ◌*◌, ◌-◌, ◌≤◌, ◌<◌}
use native.Mathlib.Omega.{arith}
use lib.ListN.{length, take, drop, length-drop}
use lib.Seq.{length-take-le}
use Rattle.buffers.specs.Written.{written, in_front}
use Rattle.buffers.proofs.Written.{written_front}
use Rattle.buffers.proofs.Blocks.{once_more_within, blocks, blocks_long}
use Rattle.buffers.proofs.Blocks.{Stacking, stacking_turns, stacking_ends}
use Rattle.log_print.specs.Lines.{line_of, count_lines}
use Rattle.log_print.proofs.Lines.{line_long}

-- the line of the counts of a value
abbrev pub row_at : (side : ℕ) → List ℕ → ℕ → List ℕ
row_at side counts u = line_of 8 (take side (drop (u * side) counts))

rows_blocks : (u side : ℕ) (counts : List ℕ) → count_lines u side counts ≡ blocks (row_at side counts) u
unfolding count_lines blocks
rows_blocks zero side counts = refl
rows_blocks (suc u) side counts = ap (λ l. l ++ row_at side counts u) (rows_blocks u side counts)

-- so many counts from a position on
part_long : (counts : List ℕ) (start side : ℕ) → start + side ≤ length counts → length (take side (drop start counts)) ≡ side
part_long counts start side h = length-take-le side (drop start counts) (omega (arith, length-drop start counts))

row_long : (side : ℕ) (counts : List ℕ) → length counts ≡ side * side → (u : ℕ) → u < side → length (row_at side counts u) ≡ 8 * side + 1
row_long side counts square u h =
    line_long 8 (take side (drop (u * side) counts))
    ∙ omega (arith, part_long counts (u * side) side (omega (arith, once_more_within u side side h)))

-- the first u lines are printed
abbrev pub Rows : (side : ℕ) → (counts before now : List ℕ) → (u : ℕ) → Type 0
Rows side counts before now u = Stacking 0 (8 * side + 1) side (row_at side counts) before now u

module _ (side : ℕ) (counts before : List ℕ) (square : length counts ≡ side * side) (room : side * (8 * side + 1) ≤ length before) where
  enough : 0 + side * (8 * side + 1) ≤ length before
  enough = omega arith

  module _ (now : List ℕ) (u : ℕ) (r : Rows side counts before now u) where
    pub rows_turn : (next : List ℕ) → u < side
        → next ≡ written now (u * (8 * side + 1)) (line_of 8 (take (u * side + side - u * side) (drop (u * side) counts)))
        → Rows side counts before next (u + 1)
    rows_turn next h e =
        let count : u * side + side - u * side ≡ side = omega arith in
        stacking_turns 0 (8 * side + 1) side (row_at side counts) before now u r next (u * (8 * side + 1)) (row_long side counts square) h
        enough (omega arith) (e ∙ rw count)

    -- all lines are printed
    pub rows_left : side ≤ u → now ≡ in_front (count_lines side side counts) before
    rows_left h =
        stacking_ends 0 (8 * side + 1) side (row_at side counts) before now u r h
        ∙ ap (written before 0) (sym (rows_blocks side side counts)) ∙ written_front before (count_lines side side counts)

  pub rows_long : side * (8 * side + 1) ≡ length (count_lines side side counts)
  rows_long =
      sym (ap length (rows_blocks side side counts) ∙ blocks_long (8 * side + 1) (row_at side counts) side (row_long side counts square))
