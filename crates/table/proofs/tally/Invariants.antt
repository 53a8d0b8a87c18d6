-- `table::tally` meets its contract. The invariant is `Tallying`: the entries passed are counted and joined.
use Rattle.table.proofs.Counts.{Tallying}
use Rattle.table.proofs.tally.Given as goal

abbrev pub invariant-loop-i : goal.invariant-loop-i
invariant-loop-i l = Tallying l.table l.i l.counts l.joined
