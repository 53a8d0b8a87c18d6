-- `log_print::put_column` meets its contract.
use Rattle.buffers.proofs.Blocks.{stacking_begins}
use Rattle.log_print.proofs.Columns.{lining_turns, lining_ends}
use Rattle.log_print.proofs.put_column.Goals as goal

pub loop-i-init : goal.loop-i-init
loop-i-init c = stacking_begins _ _ _ _ _

pub loop-i-preserved : goal.loop-i-preserved
loop-i-preserved c = search lining_turns

pub returns : goal.returns
returns c = search lining_ends
