-- `log_print::put_column` meets its contract. The invariant is `Lining`.
use Rattle.log_print.proofs.Columns.{Lining}
use Rattle.log_print.proofs.put_column.Given as goal

abbrev pub invariant-loop-i : goal.invariant-loop-i
invariant-loop-i l = Lining l.columns l.at l.numbers l.initial.output l.output l.i
