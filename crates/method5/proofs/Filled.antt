-- Both halves make the scratch of the definition, and the answer stands there.
use mathlib.Core.Path.{◌≡◌, ap, ◌∙◌}
use mathlib.Core.List.{List, ◌++◌}
use Prim.Native.Nat.{ℕ, ◌+◌, ◌*◌, ◌^◌, ◌≤◌, ◌<◌}
use native.Mathlib.Omega.{arith}
use lib.ListN.{length, get_or, drop}
use Rattle.bits.specs.Xor.{◌⊕◌}
use Rattle.bits.proofs.Xor.{below}
use Rattle.buffers.specs.Written.{written, in_front}
use Rattle.buffers.proofs.Written.{written_more, written_front, in_front_at}
use Rattle.table.specs.Balanced.{at}
use Rattle.table.proofs.Tabulate.{tabulate_at, tabulate_long, tabulate_only}
use Rattle.lookup.specs.declared.Case.{Case}
use Rattle.lookup.specs.Case.{Q}
use Rattle.lookup.specs.Bounded.{Bounded}
use Rattle.lookup.specs.Method5.{copied, first_half, second_half, scratch_5, answer_5}
use Rattle.lookup.proofs.Fifth.{first_long, second_long, halves_long, byte_x0}

module _ (c : Case) (table scratch₀ first : List ℕ) (k : Bounded c) (f : first ≡ written scratch₀ 0 (first_half c table)) where
  -- what the second pass reads stands in the first half
  pub read_there : (a : ℕ) → a < 2 ^ c.n → at first (a ⊕ c.r2) ≡ at (first_half c table) (a ⊕ c.r2)
  unfolding at Q
  read_there a h =
      ap (λ l. get_or l (a ⊕ c.r2) 0) (f ∙ written_front scratch₀ (first_half c table))
      ∙ in_front_at (first_half c table) scratch₀ (a ⊕ c.r2) (rw (first_long c table) (below c.n h k.r2))

  -- so the second half is made of it
  second_there : second_half c first ≡ second_half c (first_half c table)
  unfolding copied Q
  second_there =
      tabulate_only (2 ^ c.n) (copied c.r2 c.s2 (first_half c table)) (second_half c first)
      (tabulate_long (2 ^ c.n) _)
      (λ a h. tabulate_at (2 ^ c.n) _ a h ∙ ap (λ v. v ⊕ c.s2) (read_there a h))

  pub filled_both : (second : List ℕ) → 2 * 2 ^ c.n ≤ length scratch₀ → second ≡ written first (Q c) (second_half c first)
      → second ≡ scratch_5 c table scratch₀
  unfolding scratch_5 in_front Q
  filled_both second room s =
      let one = first_half c table in
      let two = second_half c one in
      let in_one = first_long c table in
      let in_two = second_long c table in
      s ∙ rw (second_there, f)
      (written_more scratch₀ 0 (2 ^ c.n) one two (omega (arith, in_one)) (omega (arith, in_two))
      ∙ written_front scratch₀ (one ++ two)
      ∙ ap (λ size. one ++ two ++ drop size scratch₀) (halves_long c table))

-- byte x0 of its second half is the answer
module _ (c : Case) (table scratch₀ filled : List ℕ) (k : Bounded c) (z : filled ≡ scratch_5 c table scratch₀) where
  pub filled_answers : get_or filled (2 ^ c.n + c.x0) 0 ≡ answer_5 c table
  unfolding at Q
  filled_answers = rw z (byte_x0 c table scratch₀ k.x0)

  pub read_answers : (answer : ℕ) → answer ≡ get_or filled (2 ^ c.n + c.x0) 0 → answer ≡ answer_5 c table
  read_answers answer e = e ∙ filled_answers
