-- `log_page::put_total` meets its contract.
use Rattle.log_page.proofs.KindLines.{total_left}
use Rattle.log_page.proofs.put_total.Goals as goal

pub returns : goal.returns
returns c = search total_left
