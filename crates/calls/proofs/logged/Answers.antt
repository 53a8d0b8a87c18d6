-- `calls::logged` meets its contract.
use mathlib.Core.Path.{sym}
use Rattle.refusals.proofs.Numbers.{handed_on}
use Rattle.calls.proofs.Replies.{logged_refused, logged_kept, log_kept}
use Rattle.calls.proofs.logged.Goals as goal

pub returns-in_err-refused_logged-clause-value : goal.returns-in_err-refused_logged-clause-value
returns-in_err-refused_logged-clause-value c =
    rw (handed_on _ _ c.from_residual.ensures.1) (logged_refused _ _ _ _ _ c.in_err-refused_logged.ensures)

pub returns-in_err-refused_logged-clause-scratch_after : goal.returns-in_err-refused_logged-clause-scratch_after
returns-in_err-refused_logged-clause-scratch_after c = logged_kept _ _ _ _ _ c.in_err-refused_logged.ensures

pub returns-in_err-refused_logged-clause-log_after : goal.returns-in_err-refused_logged-clause-log_after
returns-in_err-refused_logged-clause-log_after c = log_kept _ _ _ _ _ c.in_err-refused_logged.ensures

pub run_accepted-requires : goal.run_accepted-requires
run_accepted-requires c = sym c.in_ok-refused_logged.ensures
