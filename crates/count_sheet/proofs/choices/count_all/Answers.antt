use Rattle.count_sheet.proofs.Tallying.{tallied_few, tallied_turns, tallied_ends}
use Rattle.count_sheet.proofs.choices.count_all.Goals as goal

pub count-requires-clause-table_bound : goal.count-requires-clause-table_bound
count-requires-clause-table_bound c = search tallied_few

pub loop-number-preserved : goal.loop-number-preserved
loop-number-preserved c = search tallied_turns

pub returns : goal.returns
returns c = search tallied_ends
