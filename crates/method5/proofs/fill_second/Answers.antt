use Rattle.method5.proofs.Copying.{second_index, second_turns, second_ends}
use Rattle.method5.proofs.fill_second.Goals as goal

pub copied-entry-requires-clause-r_in_bounds : goal.copied-entry-requires-clause-r_in_bounds
copied-entry-requires-clause-r_in_bounds c = search second_index

pub loop-a-preserved : goal.loop-a-preserved
loop-a-preserved c = search second_turns

pub returns : goal.returns
returns c = search second_ends
