-- `field::print` meets its contract.
use Rattle.field.proofs.Printing.{printing_whole}
use Rattle.field.proofs.print.Goals as goal

pub returns : goal.returns
returns c = search printing_whole
