-- `log_print::put_counts` meets its contract. The invariant is `Rows`.
use Rattle.log_print.proofs.Counts.{Rows}
use Rattle.log_print.proofs.put_counts.Given as goal

abbrev pub invariant-loop-u : goal.invariant-loop-u
invariant-loop-u l = Rows l.side l.counts l.initial.output l.output l.u
