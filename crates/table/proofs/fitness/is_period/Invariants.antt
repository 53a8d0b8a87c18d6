-- `table::fitness::is_period` meets its contract. The invariant: no value passed has another count than its shift.
use mathlib.Core.Path.{◌≡◌}
use Prim.Native.Nat.{ℕ, ◌<◌}
use Rattle.bits.specs.Xor.{◌⊕◌}
use Rattle.table.specs.Balanced.{at}
use Rattle.table.proofs.fitness.is_period.Given as goal

abbrev pub invariant-loop-value : goal.invariant-loop-value
invariant-loop-value l = (v : ℕ) → v < l.value → at l.counts (v ⊕ l.difference) ≡ at l.counts v
