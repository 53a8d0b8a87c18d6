use Rattle.count_sheet.proofs.Masks.{taking_begins, taking_turns}
use Rattle.count_sheet.proofs.choices.masks.Goals as goal

pub loop-i-init : goal.loop-i-init
loop-i-init c = search taking_begins

pub loop-i-preserved : goal.loop-i-preserved
loop-i-preserved c = search taking_turns
