-- `table::fitness::joined_counts` meets its contract. The invariant: no count passed is more than they are joined.
use Prim.Native.Nat.{ℕ, ◌≤◌, ◌<◌}
use Rattle.table.specs.Balanced.{at}
use Rattle.table.proofs.fitness.joined_counts.Given as goal

abbrev pub invariant-loop-value : goal.invariant-loop-value
invariant-loop-value l = (v : ℕ) → v < l.value → at l.counts v ≤ l.joined
