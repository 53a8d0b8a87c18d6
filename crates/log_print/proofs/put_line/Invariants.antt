-- `log_print::put_line` meets its contract. The invariant is `Filling`.
use Rattle.log_print.proofs.Lines.{Filling}
use Rattle.log_print.proofs.put_line.Given as goal

abbrev pub invariant-loop-i : goal.invariant-loop-i
invariant-loop-i l = Filling l.columns l.at l.numbers l.initial.output l.output l.i
