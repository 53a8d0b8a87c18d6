-- `log_entries::put` meets its contract. The invariant is `Putting`: the first i entries stand in the log.
use Rattle.log_entries.proofs.Putting.{Putting}
use Rattle.log_entries.proofs.put.Given as goal

abbrev pub invariant-loop-i : goal.invariant-loop-i
invariant-loop-i l = Putting l.initial.log l.log l.position l.kinds l.values l.i
