-- `log_page::put_kind_lines` meets its contract.
use Rattle.log_page.proofs.KindLines.{listing_begins, listing_room, listing_turns}
use Rattle.log_page.proofs.put_kind_lines.Goals as goal

pub loop-kind-init : goal.loop-kind-init
loop-kind-init c = search listing_begins

pub put_kind-next-requires : goal.put_kind-next-requires
put_kind-next-requires c = search listing_room

pub loop-kind-preserved : goal.loop-kind-preserved
loop-kind-preserved c = search listing_turns
