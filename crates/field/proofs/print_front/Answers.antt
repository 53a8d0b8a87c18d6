use Rattle.field.proofs.Printing.{printing_turns, printing_ends}
use Rattle.field.proofs.print_front.Goals as goal

pub loop-i-preserved : goal.loop-i-preserved
loop-i-preserved c = search printing_turns

pub returns : goal.returns
returns c = search printing_ends
