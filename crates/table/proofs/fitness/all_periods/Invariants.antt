-- `table::fitness::all_periods` meets its contract. The invariant is `PeriodsTo`: the differences below the bits passed are periods.
use Rattle.table.proofs.Differences.{PeriodsTo}
use Rattle.table.proofs.fitness.all_periods.Given as goal

abbrev pub invariant-loop-bit : goal.invariant-loop-bit
invariant-loop-bit l = PeriodsTo l.output_width l.counts l.first l.bit
