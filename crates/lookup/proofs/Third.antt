-- The laws of method 3: what the comparison gives, and which turn's entry is kept.
use mathlib.Core.Path.{◌≡◌, refl, sym, ap, ◌∙◌}
use mathlib.Core.List.{List}
use Prim.Native.Nat.{ℕ, zero, suc, ◌-◌, ◌≤◌, ◌<◌}
use native.Mathlib.Decide.{ℕ_discrete}
use native.Mathlib.Nat.{not-suc-le-zero, le_of_suc-le-suc, le_refl}
use native.Mathlib.Omega.{arith}
use lib.Arith.{lt_of_le-ne}
use lib.ListN.{length, drop, set, replicate, length-set, length-replicate}
use lib.Seq.{drop_at}
use Rattle.bits.specs.Xor.{◌⊕◌}
use Rattle.bits.proofs.Xor.{xors, below}
use Rattle.table.specs.Balanced.{at}
use Rattle.lookup.specs.declared.Case.{Case}
use Rattle.lookup.specs.Case.{Q}
use Rattle.lookup.specs.Row.{masked}
use Rattle.lookup.specs.Method3.{comparison_table, scratch_3, place_3, compared, registers_3, answer_3}
use Rattle.lookup.proofs.Places.{at_same, at_other, at_replicate}

module _ (c : Case) (table : List ℕ) where
  pub comparison_long : length (comparison_table c) ≡ Q c
  unfolding comparison_table
  comparison_long = simp (length-set, length-replicate)

  -- the comparison table has Q bytes, so those behind it stay
  pub scratch_3_rest : (scratch : List ℕ) → drop (Q c) (scratch_3 c scratch) ≡ drop (Q c) scratch
  unfolding scratch_3
  scratch_3_rest scratch = drop_at (comparison_table c) (drop (Q c) scratch) (Q c) comparison_long

  -- the turn r1 ⊕ r2 and no other reads byte r3
  place_hits : place_3 c (c.r1 ⊕ c.r2) ≡ c.r3
  unfolding place_3
  place_hits = simp xors

  place_turn : (a : ℕ) → place_3 c a ≡ c.r3 → a ≡ c.r1 ⊕ c.r2
  unfolding place_3
  place_turn a e =
      let undone : c.r1 ⊕ c.r2 ⊕ (c.r3 ⊕ (c.r1 ⊕ a ⊕ c.r3 ⊕ c.r2)) ≡ a = simp xors in
      sym undone ∙ rw e (simp xors)

  pub place_below : (a : ℕ) → a < Q c → c.r1 < Q c → c.r2 < Q c → c.r3 < Q c → place_3 c a < Q c
  unfolding place_3 Q
  place_below a h h1 h2 h3 = below c.n (below c.n (below c.n h1 h) h3) h2

  pub compared_hit : (a : ℕ) → c.r3 < Q c → place_3 c a ≡ c.r3 → compared c a ≡ c.b
  unfolding compared comparison_table
  compared_hit a h e = rw e (at_same (replicate (Q c) (1 - c.b)) c.r3 c.b (simp length-replicate h))

  pub compared_miss : (a : ℕ) → place_3 c a < Q c → (place_3 c a ≡ c.r3 → ⊥) → compared c a ≡ 1 - c.b
  unfolding compared comparison_table
  compared_miss a h ne = at_other _ _ _ _ ne ∙ at_replicate (Q c) _ _ h

  registers_long : (k : ℕ) → length (registers_3 k c table) ≡ 2
  unfolding registers_3
  registers_long zero = refl
  registers_long (suc a) = simp length-set (registers_long a)

  -- register b holds the entry of turn r1 ⊕ r2 once that turn has passed
  kept : (k : ℕ) → k ≤ Q c → c.b < 2 → c.r1 < Q c → c.r2 < Q c → c.r3 < Q c → c.r1 ⊕ c.r2 < k
      → at (registers_3 k c table) c.b ≡ masked c table (c.r1 ⊕ c.r2)
  unfolding registers_3
  kept zero l b h1 h2 h3 h = absurd (not-suc-le-zero h)
  kept (suc a) l b h1 h2 h3 h = turn (ℕ_discrete (c.r1 ⊕ c.r2) a) (kept a (omega arith) b h1 h2 h3)
    where
      turn : Dec (c.r1 ⊕ c.r2 ≡ a) → (c.r1 ⊕ c.r2 < a → at (registers_3 a c table) c.b ≡ masked c table (c.r1 ⊕ c.r2))
          → at (set (registers_3 a c table) (compared c a) (masked c table a)) c.b ≡ masked c table (c.r1 ⊕ c.r2)
      turn (yes e) before =
          rw (compared_hit a h3 (rw e at place_hits)) (at_same (registers_3 a c table) _ _ (rw (registers_long a) b)
          ∙ ap (masked c table) (sym e))
      turn (no ne) before =
          let miss : compared c a ≡ 1 - c.b = compared_miss a (place_below a l h1 h2 h3) (λ e. ne (sym (place_turn a e))) in
          at_other _ _ c.b _ (λ e. omega (arith, e ∙ miss)) ∙ before (lt_of_le-ne (le_of_suc-le-suc h) ne)

  pub answer_3_is : c.b < 2 → c.r1 < Q c → c.r2 < Q c → c.r3 < Q c → answer_3 c table ≡ masked c table (c.r1 ⊕ c.r2)
  unfolding answer_3 Q
  answer_3_is b h1 h2 h3 = kept (Q c) (le_refl _) b h1 h2 h3 (below c.n h1 h2)

  -- the comparison gives a bit
  pub compared_small : (a : ℕ) → c.b < 2 → c.r1 < Q c → c.r2 < Q c → c.r3 < Q c → a < Q c → compared c a < 2
  compared_small a b h1 h2 h3 h = at_turn (ℕ_discrete (place_3 c a) c.r3)
    where
      at_turn : Dec (place_3 c a ≡ c.r3) → compared c a < 2
      at_turn (yes e) = rw (compared_hit a h3 e) b
      at_turn (no ne) = rw (compared_miss a (place_below a h h1 h2 h3) ne) (omega arith)
