-- `log_page::put_entry_line` meets its contract.
use Rattle.log_page.proofs.SideBySide.{line_left}
use Rattle.log_page.proofs.put_entry_line.Goals as goal

pub returns : goal.returns
returns c = search line_left
