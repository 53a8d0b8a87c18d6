use Rattle.buffers.proofs.Blocks.{stacking_begins}
use Rattle.log_print.proofs.Entries.{listing_turns, listing_ends}
use Rattle.log_print.proofs.put_entries.Goals as goal

pub loop-i-init : goal.loop-i-init
loop-i-init c = stacking_begins _ _ _ _ _

-- the search would go through every step, so the facts are named: what the call told, the loop's test, and the function's own `requires`
pub loop-i-preserved : goal.loop-i-preserved
loop-i-preserved c =
    listing_turns _ _ _ _ _ c.loop-i.invariant _ c.requires.1 c.loop-i-test.true c.put_entry.ensures

pub returns : goal.returns
returns c = search listing_ends
