-- `log_print::put_entries` meets its contract. The invariant is `Listing`.
use Rattle.log_print.proofs.Entries.{Listing}
use Rattle.log_print.proofs.put_entries.Given as goal

abbrev pub invariant-loop-i : goal.invariant-loop-i
invariant-loop-i l = Listing l.first l.log l.initial.output l.output l.i
