-- `shares::add_key` meets its contract.
use Rattle.bits.specs.Xor.{◌⊕◌}
use Rattle.refusals.proofs.Numbers.{handed_on}
use Rattle.shares.specs.Shares.{add_key}
use Rattle.shares.proofs.Replies.{refused, accepted}
use Rattle.shares.proofs.add_key.Goals as goal

pub returns-in_err-width_refusal : goal.returns-in_err-width_refusal
unfolding add_key
returns-in_err-width_refusal c =
    rw (handed_on _ _ c.from_residual.ensures.1) (refused _ _ _ _ _ c.in_err-width_refusal.ensures)

pub returns : goal.returns
unfolding add_key ◌⊕◌
returns c = accepted _ _ _ _ c.in_ok-width_refusal.ensures
