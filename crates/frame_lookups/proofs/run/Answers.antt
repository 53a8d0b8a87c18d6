-- `frame_lookups::run` meets its contract.
use Rattle.frame_lookups.proofs.Cases.{table_long, answer_of}
use Rattle.frame_lookups.proofs.Clearing.{scratch_of, cleared_after}
use Rattle.frame_lookups.proofs.run.Goals as goal

pub run-requires-clause-table_len : goal.run-requires-clause-table_len
run-requires-clause-table_len c = search table_long

pub returns-clause-scratch_after : goal.returns-clause-scratch_after
returns-clause-scratch_after c = search scratch_of

pub returns-clause-value : goal.returns-clause-value
returns-clause-value c = search answer_of

pub returns-clause-scratch_after_2 : goal.returns-clause-scratch_after_2
returns-clause-scratch_after_2 c = search cleared_after
