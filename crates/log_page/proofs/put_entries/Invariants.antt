-- `log_page::put_entries` meets its contract. The invariant is `Siding`.
use Rattle.log_page.proofs.SideBySide.{Siding}
use Rattle.log_page.proofs.put_entries.Given as goal

abbrev pub invariant-loop-i : goal.invariant-loop-i
invariant-loop-i l = Siding l.at l.position l.entries l.initial.output l.output l.i
