use Rattle.method5.proofs.Copying.{first_index, first_turns, first_ends}
use Rattle.method5.proofs.fill_first.Goals as goal

pub copied-requires-clause-r_in_bounds : goal.copied-requires-clause-r_in_bounds
copied-requires-clause-r_in_bounds c = search first_index

pub loop-a-preserved : goal.loop-a-preserved
loop-a-preserved c = search first_turns

pub returns : goal.returns
returns c = search first_ends
