-- `shares::join` meets its contract.
use Rattle.bits.specs.Xor.{◌⊕◌}
use Rattle.refusals.proofs.Numbers.{handed_on}
use Rattle.shares.specs.Shares.{join}
use Rattle.shares.proofs.Replies.{secret_refused, secret_accepted}
use Rattle.shares.proofs.join.Goals as goal

pub returns-in_err-width_refusal : goal.returns-in_err-width_refusal
unfolding join
returns-in_err-width_refusal c =
    rw (handed_on _ _ c.from_residual.ensures.1) (secret_refused _ _ _ c.in_err-width_refusal.ensures)

pub returns : goal.returns
unfolding join ◌⊕◌
returns c = secret_accepted _ _ c.in_ok-width_refusal.ensures
