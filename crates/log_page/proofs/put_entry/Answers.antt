-- `log_page::put_entry` meets its contract.
use Rattle.log_page.proofs.SideBySide.{entry_left}
use Rattle.log_page.proofs.put_entry.Goals as goal

pub returns : goal.returns
returns c = search entry_left
