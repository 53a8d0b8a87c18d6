-- The scratch that the loop has filled with 1 - b, and byte r3 set behind the last turn, is the prepared one.
use mathlib.Core.Path.{◌≡◌}
use mathlib.Core.List.{List}
use Prim.Native.Nat.{ℕ, ◌-◌, ◌^◌, ◌≤◌}
use lib.ListN.{take, set, replicate, length-replicate}
use lib.Seq.{set-append_left, take_at}
use Rattle.buffers.proofs.Front.{Front, front_ends}
use Rattle.lookup.specs.declared.Case.{Case}
use Rattle.lookup.specs.Case.{Q}
use Rattle.lookup.specs.Bounded.{Bounded}
use Rattle.lookup.specs.Method3.{comparison_table, scratch_3}
use Rattle.lookup.proofs.Third.{comparison_long}

module _ (c : Case) (size : ℕ) (before now : List ℕ) (i : ℕ) (k : Bounded c) (s : size ≡ 2 ^ c.n) (h : size ≤ i)
    (f : Front (1 - c.b) size before now i) where
  pub prepared_ends : set now c.r3 c.b ≡ scratch_3 c before
  unfolding scratch_3 comparison_table Q
  prepared_ends =
      rw (front_ends (1 - c.b) size before now i h f, s)
      (set-append_left (replicate (2 ^ c.n) (1 - c.b)) _ c.r3 c.b (simp length-replicate k.r3))

  -- it begins with the comparison table
  pub prepared_compares : take (Q c) (set now c.r3 c.b) ≡ comparison_table c
  unfolding scratch_3
  prepared_compares = rw prepared_ends (take_at (comparison_table c) _ (Q c) (comparison_long c before))
