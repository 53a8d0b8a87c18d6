-- `field::print_front` meets its contract. The invariant is `Printing`.
use Rattle.field.proofs.Printing.{Printing}
use Rattle.field.proofs.print_front.Given as goal

abbrev pub invariant-loop-i : goal.invariant-loop-i
invariant-loop-i l = Printing l.initial.output l.output l.at l.columns l.value l.i l.left
