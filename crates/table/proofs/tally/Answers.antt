use lib.Dec.{lit≤}
use Rattle.table.proofs.Counts.{tallying_begins, tallying_turns, counter_small, counter_fits, tallying_ends}
use Rattle.table.proofs.tally.Goals as goal

pub loop-i-init : goal.loop-i-init
loop-i-init c = search tallying_begins

pub overflow_add-counts : goal.overflow_add-counts
overflow_add-counts c = search (counter_fits, counter_small, lit≤, c.type_inv.table c.loop-i.i)

pub loop-i-preserved : goal.loop-i-preserved
loop-i-preserved c = search (tallying_turns, c.type_inv.table c.loop-i.i)

pub returns : goal.returns
returns c = search tallying_ends
