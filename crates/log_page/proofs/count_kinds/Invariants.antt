-- `log_page::count_kinds` meets its contract. The invariant is `Counting`.
use Rattle.log_page.proofs.KindLines.{Counting}
use Rattle.log_page.proofs.count_kinds.Given as goal

abbrev pub invariant-loop-entry : goal.invariant-loop-entry
invariant-loop-entry l = Counting l.log l.counts l.entry-index
