-- `table::fitness::find_difference` meets its contract. The invariant: no difference passed leads from the first entry to a value that occurs.
use mathlib.Core.Path.{◌≡◌}
use Prim.Native.Nat.{ℕ, ◌^◌, ◌≤◌, ◌<◌}
use Rattle.bits.specs.Xor.{◌⊕◌}
use Rattle.table.specs.Balanced.{at}
use Rattle.table.proofs.fitness.find_difference.Given as goal

abbrev pub invariant-loop-difference : goal.invariant-loop-difference
invariant-loop-difference l = (d : ℕ) → 2 ^ l.bit ≤ d → d < l.difference → at l.counts (l.first ⊕ d) ≡ 0
