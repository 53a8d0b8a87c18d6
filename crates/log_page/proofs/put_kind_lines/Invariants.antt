-- `log_page::put_kind_lines` meets its contract. The invariant is `Listing`.
use Rattle.log_page.proofs.KindLines.{Listing}
use Rattle.log_page.proofs.put_kind_lines.Given as goal

abbrev pub invariant-loop-kind : goal.invariant-loop-kind
invariant-loop-kind l = Listing l.at l.log l.initial.output l.output l.next l.kind
