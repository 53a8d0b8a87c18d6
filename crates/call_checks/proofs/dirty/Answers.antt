use Rattle.call_checks.proofs.Scratch.{marked_begins, marked_turns, marked_ends}
use Rattle.call_checks.proofs.dirty.Goals as goal

pub loop-i-init : goal.loop-i-init
loop-i-init c = search marked_begins

pub loop-i-preserved : goal.loop-i-preserved
loop-i-preserved c = search marked_turns

pub returns : goal.returns
returns c = search marked_ends
