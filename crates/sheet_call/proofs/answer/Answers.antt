-- `sheet_call::answer` meets its contract.
use Rattle.refusals.proofs.Numbers.{not_zero, handed_on}
use Rattle.sheet_call.proofs.Answers.{malformed_told, malformed_left, entries_lent, entries_within, refused_told, refused_left}
use Rattle.sheet_call.proofs.Answers.{not_wide, bytes_room, bytes_lent, bytes_within, answer_told, answer_left}
use Rattle.sheet_call.proofs.answer.Goals as goal

pub returns-in_default-clause-value : goal.returns-in_default-clause-value
returns-in_default-clause-value c = search malformed_told

pub returns-in_default-clause-log_after : goal.returns-in_default-clause-log_after
returns-in_default-clause-log_after c = search malformed_left

pub slice_bounds-table-end : goal.slice_bounds-table-end
slice_bounds-table-end c = search entries_within

pub slice_bounds-table-end-2 : goal.slice_bounds-table-end-2
slice_bounds-table-end-2 c = search entries_lent

pub returns-in_err-wide_refusal-clause-value : goal.returns-in_err-wide_refusal-clause-value
returns-in_err-wide_refusal-clause-value c =
    rw (handed_on _ _ c.from_residual.ensures.1) (search (refused_told, c.in_err-wide_refusal.ensures, not_zero))

pub returns-in_err-wide_refusal-clause-log_after : goal.returns-in_err-wide_refusal-clause-log_after
returns-in_err-wide_refusal-clause-log_after c = search (refused_left, c.in_err-wide_refusal.ensures, not_zero)

pub narrow-requires : goal.narrow-requires
narrow-requires c = (search (not_wide, c.in_ok-wide_refusal.ensures), search bytes_room)

pub slice_bounds-bytes-end : goal.slice_bounds-bytes-end
slice_bounds-bytes-end c = search bytes_within

pub slice_bounds-logged-end : goal.slice_bounds-logged-end
slice_bounds-logged-end c = search bytes_lent

pub returns-clause-value : goal.returns-clause-value
returns-clause-value c = search answer_told

pub returns-clause-log_after : goal.returns-clause-log_after
returns-clause-log_after c = search answer_left
