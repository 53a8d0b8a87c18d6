-- `frame::encrypt_frame` meets its contract.
use mathlib.Core.Path.{refl}
use Rattle.refusals.proofs.Numbers.{not_zero, handed_on}
use Rattle.frame.proofs.Checks.{random_long, scratch_room}
use Rattle.frame.proofs.Replies.{frame_refused, frame_answered, scratch_kept, scratch_cleared}
use Rattle.frame.proofs.encrypt_frame.Goals as goal

pub returns-in_err-refused-clause-value : goal.returns-in_err-refused-clause-value
returns-in_err-refused-clause-value c =
    rw (handed_on _ _ c.from_residual.ensures.1) (frame_refused _ _ _ _ _ _ _ c.in_err-refused.ensures (not_zero _))

pub returns-in_err-refused-clause-scratch_after : goal.returns-in_err-refused-clause-scratch_after
returns-in_err-refused-clause-scratch_after c = scratch_kept _ _ _ c.in_err-refused.ensures (not_zero _)

pub encrypt-s-requires-clause-random_len : goal.encrypt-s-requires-clause-random_len
encrypt-s-requires-clause-random_len c = random_long _ _ _ c.in_ok-refused.ensures refl

pub encrypt-s-requires-clause-in_bounds : goal.encrypt-s-requires-clause-in_bounds
encrypt-s-requires-clause-in_bounds c = scratch_room _ _ _ c.in_ok-refused.ensures refl

pub returns-clause-value : goal.returns-clause-value
returns-clause-value c = search (frame_answered, c.in_ok-refused.ensures)

pub returns-clause-scratch_after : goal.returns-clause-scratch_after
returns-clause-scratch_after c = search (scratch_cleared, c.in_ok-refused.ensures)
