use Rattle.buffers.proofs.Pasting.{pasting_begins}
use Rattle.wide_table.proofs.Narrowing.{entry_fits, narrowing_turns, narrowing_ends}
use Rattle.wide_table.proofs.narrow.Goals as goal

pub loop-i-init : goal.loop-i-init
loop-i-init c = search pasting_begins

pub overflow_cast-bytes : goal.overflow_cast-bytes
overflow_cast-bytes c = search entry_fits

pub loop-i-preserved : goal.loop-i-preserved
loop-i-preserved c = search narrowing_turns

pub returns : goal.returns
returns c = search narrowing_ends
