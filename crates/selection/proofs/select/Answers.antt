-- `selection::select` meets its contract.
use mathlib.Core.Path.{refl}
use Rattle.refusals.specs.declared.Refusal.TheVariants.{ShortLog}
use Rattle.refusals.proofs.Numbers.{not_zero, handed_on}
use Rattle.selection.proofs.Accepted.{told_bounded}
use Rattle.selection.proofs.Checking.{at_plain, at_14, at_none}
use Rattle.selection.proofs.Logging.{front_written}
use Rattle.selection.proofs.Replies.{reply_refused, log_refused, reply_accepted, log_accepted}
use Rattle.selection.proofs.select.Goals as goal

pub returns-in_err-refused-clause-value : goal.returns-in_err-refused-clause-value
returns-in_err-refused-clause-value c =
    rw (handed_on _ _ c.from_residual.ensures.1)
    (reply_refused _ _ _ (at_plain _ _ _ c.in_err-refused.ensures (not_zero _)) (not_zero _))

pub returns-in_err-refused-clause-log_after : goal.returns-in_err-refused-clause-log_after
returns-in_err-refused-clause-log_after c = log_refused _ _ _ (at_plain _ _ _ c.in_err-refused.ensures (not_zero _)) (not_zero _)

pub returns-in_default-clause-value : goal.returns-in_default-clause-value
returns-in_default-clause-value c =
    reply_refused _ _ _ (at_14 _ _ c.in_ok-refused.ensures c.in_default.ensures.cases) (not_zero ShortLog)

pub returns-in_default-clause-log_after : goal.returns-in_default-clause-log_after
returns-in_default-clause-log_after c = log_refused _ _ _ (at_14 _ _ c.in_ok-refused.ensures c.in_default.ensures.cases) (not_zero ShortLog)

pub invariant_of-run : goal.invariant_of-run
invariant_of-run c = record { bounded = told_bounded _ c.in_ok-refused.ensures }

pub returns-clause-value : goal.returns-clause-value
returns-clause-value c =
    reply_accepted _ _ _ (at_none _ _ c.in_ok-refused.ensures c.in-Some.ensures.cases.enough) _ refl c.run.ensures.value

pub returns-clause-log_after : goal.returns-clause-log_after
returns-clause-log_after c =
    log_accepted _ _ _ (at_none _ _ c.in_ok-refused.ensures c.in-Some.ensures.cases.enough) _ refl
    (front_written _ _ _ c.run.ensures.log_after)
