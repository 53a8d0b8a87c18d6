-- What stands at a place of a list after a store.
use mathlib.Core.Path.{◌≡◌}
use mathlib.Core.List.{List}
use Prim.Native.Nat.{ℕ, ◌<◌}
use lib.ListN.{length, set, replicate, get_or-replicate}
use lib.Seq.{get_or-set_same, get_or-set_other}
use Rattle.table.specs.Balanced.{at}

pub at_same : (l : List ℕ) (i v : ℕ) → i < length l → at (set l i v) i ≡ v
unfolding at
at_same l i v h = get_or-set_same l i v 0 h

pub at_other : (l : List ℕ) (i j v : ℕ) → (j ≡ i → ⊥) → at (set l i v) j ≡ at l j
unfolding at
at_other l i j v h = get_or-set_other l i j v 0 h

pub at_replicate : (k i v : ℕ) → i < k → at (replicate k v) i ≡ v
unfolding at
at_replicate k i v h = get_or-replicate k i v 0 h
