-- `selection::plain_select` meets its contract.
use mathlib.Core.Path.{refl}
use Rattle.refusals.proofs.Numbers.{not_zero}
use Rattle.selection.proofs.Accepted.{told_bounded}
use Rattle.selection.proofs.Replies.{share_refused, share_accepted}
use Rattle.selection.proofs.plain_select.Goals as goal

pub returns-in_err-refused-clause-share0_after : goal.returns-in_err-refused-clause-share0_after
returns-in_err-refused-clause-share0_after c = share_refused _ _ c.in_err-refused.ensures 0 _ (not_zero _)

pub returns-in_err-refused-clause-share1_after : goal.returns-in_err-refused-clause-share1_after
returns-in_err-refused-clause-share1_after c = share_refused _ _ c.in_err-refused.ensures 1 _ (not_zero _)

pub returns-in_err-refused-clause-share2_after : goal.returns-in_err-refused-clause-share2_after
returns-in_err-refused-clause-share2_after c = share_refused _ _ c.in_err-refused.ensures 2 _ (not_zero _)

pub run-requires : goal.run-requires
run-requires c = told_bounded _ c.in_ok-refused.ensures

pub returns-clause-share0_after : goal.returns-clause-share0_after
returns-clause-share0_after c = share_accepted _ _ c.in_ok-refused.ensures 0 _ _ refl c.run.ensures.share0_after

pub returns-clause-share1_after : goal.returns-clause-share1_after
returns-clause-share1_after c = share_accepted _ _ c.in_ok-refused.ensures 1 _ _ refl c.run.ensures.share1_after

pub returns-clause-share2_after : goal.returns-clause-share2_after
returns-clause-share2_after c = share_accepted _ _ c.in_ok-refused.ensures 2 _ _ refl c.run.ensures.share2_after
