-- The laws of method 2: what stands in the scratch after the turns, and the answer.
use mathlib.Core.Path.{◌≡◌, refl, sym, ap, ◌∙◌}
use mathlib.Core.List.{List}
use Prim.Native.Nat.{ℕ, zero, suc, ◌≤◌, ◌<◌}
use native.Mathlib.Decide.{ℕ_discrete}
use native.Mathlib.Nat.{not-suc-le-zero, le_of_suc-le-suc}
use native.Mathlib.Omega.{arith}
use lib.Arith.{lt_of_le-ne}
use lib.ListN.{length, drop, set, replicate, length-set, length-replicate}
use lib.Seq.{drop-set-lt}
use Rattle.bits.specs.Xor.{◌⊕◌}
use Rattle.bits.proofs.Xor.{xors, below}
use Rattle.table.specs.Balanced.{at}
use Rattle.lookup.specs.declared.Case.{Case}
use Rattle.lookup.specs.Case.{Q}
use Rattle.lookup.specs.Row.{masked}
use Rattle.lookup.specs.Method2.{r_prime, scratch_2, answer_2}
use Rattle.lookup.proofs.Places.{at_same, at_other}

pub r_prime_below : (c : Case) → c.r1 < Q c → c.r2 < Q c → c.r3 < Q c → r_prime c < Q c
unfolding r_prime Q
r_prime_below c h1 h2 h3 = below c.n (below c.n h1 h3) h2

module _ (c : Case) (table : List ℕ) where
  pub scratch_long : (k : ℕ) (scratch : List ℕ) → length (scratch_2 k c table scratch) ≡ length scratch
  unfolding scratch_2
  scratch_long zero scratch = refl
  scratch_long (suc a) scratch = simp length-set (scratch_long a scratch)

  -- each byte of a turn that has passed holds the turn's entry: no later turn touches it
  pub filled : (k : ℕ) (scratch : List ℕ) (j : ℕ) → j < length scratch → j ⊕ r_prime c < k
      → at (scratch_2 k c table scratch) j ≡ masked c table (j ⊕ r_prime c)
  unfolding scratch_2
  filled zero scratch j l h = absurd (not-suc-le-zero h)
  filled (suc a) scratch j l h = turn (ℕ_discrete j (a ⊕ r_prime c)) (filled a scratch j l)
    where
      turn : Dec (j ≡ a ⊕ r_prime c) → (j ⊕ r_prime c < a → at (scratch_2 a c table scratch) j ≡ masked c table (j ⊕ r_prime c))
          → at (set (scratch_2 a c table scratch) (a ⊕ r_prime c) (masked c table a)) j ≡ masked c table (j ⊕ r_prime c)
      turn (yes e) before =
          rw e (at_same (scratch_2 a c table scratch) _ _ (rw (scratch_long a scratch, ← e) l) ∙ ap (masked c table) (simp xors))
      turn (no ne) before =
          at_other _ _ j _ ne ∙ before (lt_of_le-ne (le_of_suc-le-suc h) (λ e. ne (sym (ap (λ i. i ⊕ r_prime c) (sym e) ∙ simp xors))))

  -- no turn touches a byte from Q on
  pub beyond : (k : ℕ) (scratch : List ℕ) → r_prime c < Q c → k ≤ Q c → drop (Q c) (scratch_2 k c table scratch) ≡ drop (Q c) scratch
  unfolding scratch_2 Q
  beyond zero scratch h l = refl
  beyond (suc a) scratch h l = drop-set-lt _ (scratch_2 a c table scratch) _ _ (below c.n l h) ∙ beyond a scratch h (omega arith)

  -- byte r3 is the masked entry of turn r1 ⊕ r2
  pub byte_r3 : (scratch : List ℕ) → Q c ≤ length scratch → c.r1 < Q c → c.r2 < Q c → c.r3 < Q c
      → at (scratch_2 (Q c) c table scratch) c.r3 ≡ masked c table (c.r1 ⊕ c.r2)
  unfolding r_prime Q
  byte_r3 scratch l h1 h2 h3 =
      let turn : c.r3 ⊕ r_prime c ≡ c.r1 ⊕ c.r2 = simp xors in
      filled (Q c) scratch c.r3 (omega arith) (rw turn (below c.n h1 h2)) ∙ ap (masked c table) turn

  pub answer_2_is : c.r1 < Q c → c.r2 < Q c → c.r3 < Q c → answer_2 c table ≡ masked c table (c.r1 ⊕ c.r2)
  unfolding answer_2
  answer_2_is = byte_r3 (replicate (Q c) 0) (simp length-replicate (omega arith))
