-- `frame_lookups::answer` meets its contract.
use Rattle.frame_lookups.proofs.Cases.{answered_by}
use Rattle.frame_lookups.proofs.Clearing.{filled_by, now_clean, lookup_clears}
use Rattle.frame_lookups.proofs.answer.Goals as goal

pub run-requires-clause-scratch_value : goal.run-requires-clause-scratch_value
run-requires-clause-scratch_value c = now_clean _ _ c.clear.ensures

pub returns-clause-scratch_after : goal.returns-clause-scratch_after
returns-clause-scratch_after c = search filled_by

pub returns-clause-value : goal.returns-clause-value
returns-clause-value c = search answered_by

pub returns-clause-scratch_unchanged : goal.returns-clause-scratch_unchanged
returns-clause-scratch_unchanged c = search lookup_clears
