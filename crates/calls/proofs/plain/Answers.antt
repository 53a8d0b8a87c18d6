-- `calls::plain` meets its contract.
use Rattle.refusals.proofs.Numbers.{handed_on}
use Rattle.calls.proofs.Replies.{plain_refused, plain_kept, plain_answered, plain_left}
use Rattle.calls.proofs.Replies.{plain_method, plain_bounded, plain_table, plain_room}
use Rattle.calls.proofs.plain.Goals as goal

pub returns-in_err-refused_plain-clause-value : goal.returns-in_err-refused_plain-clause-value
returns-in_err-refused_plain-clause-value c =
    rw (handed_on _ _ c.from_residual.ensures.1) (plain_refused _ _ _ _ c.in_err-refused_plain.ensures)

pub returns-in_err-refused_plain-clause-scratch_after : goal.returns-in_err-refused_plain-clause-scratch_after
returns-in_err-refused_plain-clause-scratch_after c = plain_kept _ _ _ _ c.in_err-refused_plain.ensures

pub run-share-requires-clause-method_value : goal.run-share-requires-clause-method_value
run-share-requires-clause-method_value c = plain_method _ _ _ c.in_ok-refused_plain.ensures

pub run-share-requires-clause-bounded : goal.run-share-requires-clause-bounded
run-share-requires-clause-bounded c = plain_bounded _ _ _ c.in_ok-refused_plain.ensures

pub run-share-requires-clause-table_len : goal.run-share-requires-clause-table_len
run-share-requires-clause-table_len c = plain_table _ _ _ c.in_ok-refused_plain.ensures

pub run-share-requires-clause-n_in_bounds : goal.run-share-requires-clause-n_in_bounds
run-share-requires-clause-n_in_bounds c = plain_room _ _ _ c.in_ok-refused_plain.ensures

pub returns-clause-value : goal.returns-clause-value
returns-clause-value c = search (plain_answered, c.in_ok-refused_plain.ensures)

pub returns-clause-scratch_after : goal.returns-clause-scratch_after
returns-clause-scratch_after c = search (plain_left, c.in_ok-refused_plain.ensures)
