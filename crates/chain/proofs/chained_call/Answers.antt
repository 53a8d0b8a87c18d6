-- `chain::chained_call` meets its contract.
use Rattle.refusals.proofs.Numbers.{not_zero, handed_on}
use Rattle.chain.proofs.Replies.{refused_reply, both_answered, second_scratch_left, second_log_left}
use Rattle.chain.proofs.chained_call.Goals as goal

pub returns-in_err-refused-clause-value : goal.returns-in_err-refused-clause-value
returns-in_err-refused-clause-value c =
    rw (handed_on _ _ c.from_residual.ensures.1) (search (refused_reply, not_zero, c.in_err-refused.ensures))

pub returns-clause-value : goal.returns-clause-value
returns-clause-value c = search (both_answered, c.in_ok-refused.ensures)

pub returns-clause-second_scratch_after : goal.returns-clause-second_scratch_after
returns-clause-second_scratch_after c = search (second_scratch_left, c.in_ok-refused.ensures)

pub returns-clause-second_log_after : goal.returns-clause-second_log_after
returns-clause-second_log_after c = search (second_log_left, c.in_ok-refused.ensures)
