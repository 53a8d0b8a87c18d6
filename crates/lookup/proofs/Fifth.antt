-- The laws of method 5: what stands in each half of the scratch, and the answer.
use mathlib.Core.Path.{◌≡◌, ap, ◌∙◌}
use mathlib.Core.List.{List, ◌++◌, append_assoc}
use Prim.Native.Nat.{ℕ, ◌+◌, ◌*◌, ◌<◌}
use native.Mathlib.Omega.{arith}
use lib.ListN.{length, get_or, drop, length-append, get_or-append}
use lib.Seq.{drop_at, get_or-append-add}
use Rattle.bits.specs.Xor.{◌⊕◌}
use Rattle.bits.proofs.Xor.{xors, below}
use Rattle.table.specs.Balanced.{at}
use Rattle.table.proofs.Tabulate.{tabulate_at, tabulate_long}
use Rattle.lookup.specs.declared.Case.{Case}
use Rattle.lookup.specs.Case.{Q}
use Rattle.lookup.specs.Row.{masked}
use Rattle.lookup.specs.Method5.{copied, first_half, second_half, scratch_5, answer_5}

-- an element of a list between two others
at_between : (before here behind : List ℕ) (start i : ℕ) → length before ≡ start → i < length here
    → at (before ++ here ++ behind) (start + i) ≡ at here i
unfolding at
at_between before here behind start i e h =
    ap (λ l. get_or l (start + i) 0) (append_assoc before here behind)
    ∙ rw (← e) (get_or-append-add before (here ++ behind) i 0)
    ∙ get_or-append here behind 0 i h

module _ (c : Case) (table : List ℕ) where
  abbrev first : List ℕ
  first = first_half c table

  abbrev second : List ℕ
  second = second_half c first

  pub first_long : length first ≡ Q c
  first_long = tabulate_long (Q c) (copied c.r1 c.s1 table)

  pub second_long : length second ≡ Q c
  second_long = tabulate_long (Q c) (copied c.r2 c.s2 first)

  pub halves_long : length (first ++ second) ≡ 2 * Q c
  halves_long = length-append first second ∙ omega (arith, first_long, second_long)

  pub scratch_5_rest : (scratch : List ℕ) → drop (2 * Q c) (scratch_5 c table scratch) ≡ drop (2 * Q c) scratch
  unfolding scratch_5
  scratch_5_rest scratch = drop_at (first ++ second) (drop (2 * Q c) scratch) (2 * Q c) halves_long

  -- the byte that turn a of the second pass reads is the table's entry for a ⊕ r2 ⊕ r1, under s1
  pub read_is : (a : ℕ) → a < Q c → c.r2 < Q c → at first (a ⊕ c.r2) ≡ at table (a ⊕ c.r2 ⊕ c.r1) ⊕ c.s1
  unfolding copied Q
  read_is a h h2 = tabulate_at (Q c) (copied c.r1 c.s1 table) (a ⊕ c.r2) (below c.n h h2)

  pub copied_is : (a : ℕ) → a < Q c → c.r2 < Q c → copied c.r2 c.s2 first a ≡ at table (a ⊕ c.r2 ⊕ c.r1) ⊕ c.s1 ⊕ c.s2
  unfolding copied
  copied_is a h h2 = ap (λ v. v ⊕ c.s2) (read_is a h h2)

  -- so byte x0 of the second half is the masked entry of turn r1 ⊕ r2
  pub answer_5_is : c.x0 < Q c → c.r2 < Q c → answer_5 c table ≡ masked c table (c.r1 ⊕ c.r2)
  unfolding answer_5 masked
  answer_5_is h h2 =
      let index : c.x0 ⊕ c.r2 ⊕ c.r1 ≡ c.x0 ⊕ (c.r1 ⊕ c.r2) = simp xors in
      tabulate_at (Q c) (copied c.r2 c.s2 first) c.x0 h
      ∙ copied_is c.x0 h h2
      ∙ ap (λ i. at table i ⊕ c.s1 ⊕ c.s2) index

  -- which is where the scratch has it
  pub byte_x0 : (scratch : List ℕ) → c.x0 < Q c → at (scratch_5 c table scratch) (Q c + c.x0) ≡ answer_5 c table
  unfolding scratch_5 answer_5
  byte_x0 scratch h = at_between first second (drop (2 * Q c) scratch) (Q c) c.x0 first_long (rw second_long h)
