-- `log_print::put_counts` meets its contract.
use Rattle.buffers.proofs.Blocks.{stacking_begins}
use Rattle.log_print.proofs.Counts.{rows_turn, rows_long, rows_left}
use Rattle.log_print.proofs.put_counts.Goals as goal

pub loop-u-init : goal.loop-u-init
loop-u-init c = stacking_begins _ _ _ _ _

pub loop-u-preserved : goal.loop-u-preserved
loop-u-preserved c = search rows_turn

pub returns-clause-value : goal.returns-clause-value
returns-clause-value c = search rows_long

pub returns-clause-output_after : goal.returns-clause-output_after
returns-clause-output_after c = search rows_left
