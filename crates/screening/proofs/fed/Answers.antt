use lib.Dec.{lit≤}
use Rattle.table.specs.Balanced.{at}
use Rattle.screening.proofs.Feeding.{fed_begins, fed_turns, fed_stops, fed_ends, can_leave, can_come}
use Rattle.screening.proofs.fed.Goals as goal

pub loop-position-init : goal.loop-position-init
unfolding at
loop-position-init c = fed_begins _ _ (λ k. (c.type_inv.run k).fits) c.requires

pub take_off-requires : goal.take_off-requires
take_off-requires c = search can_leave

pub add-requires : goal.add-requires
add-requires c = search can_come

pub returns-then-add-gt20 : goal.returns-then-add-gt20
returns-then-add-gt20 c = search (fed_stops, lit≤)

pub loop-position-preserved : goal.loop-position-preserved
loop-position-preserved c = search (fed_turns, lit≤)

pub returns : goal.returns
returns c = search fed_ends
