-- `log_page::put_entries` meets its contract.
use Rattle.buffers.proofs.Blocks.{stacking_begins}
use Rattle.log_page.proofs.SideBySide.{siding_turns, siding_ends}
use Rattle.log_page.proofs.put_entries.Goals as goal

pub loop-i-init : goal.loop-i-init
loop-i-init c = stacking_begins _ _ _ _ _

pub loop-i-preserved : goal.loop-i-preserved
loop-i-preserved c = search siding_turns

pub returns : goal.returns
returns c = search siding_ends
