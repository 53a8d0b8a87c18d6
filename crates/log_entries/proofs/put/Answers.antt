use Rattle.log_entries.proofs.Putting.{putting_turns, putting_ends}
use Rattle.log_entries.proofs.put.Goals as goal

pub loop-i-preserved : goal.loop-i-preserved
loop-i-preserved c = search putting_turns

pub returns : goal.returns
returns c = search putting_ends
