-- `log_page::put_spaces` meets its contract.
use Rattle.log_page.proofs.Blanks.{spaces_left}
use Rattle.log_page.proofs.put_spaces.Goals as goal

pub returns : goal.returns
returns c = spaces_left _ _ _ _ c.requires (c.fill.ensures.after (λ y e. e))
