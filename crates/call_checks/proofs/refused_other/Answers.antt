-- `call_checks::refused_other` meets its contract.
use Rattle.refusals.proofs.Numbers.{not_zero, handed_on}
use Rattle.call_checks.proofs.Checking.{masks_stop, scratch_stops, at_14, at_end}
use Rattle.call_checks.proofs.refused_other.Goals as goal

pub returns-in_err-refused_masks : goal.returns-in_err-refused_masks
returns-in_err-refused_masks c = rw (handed_on _ _ c.from_residual.ensures.1) (search (masks_stop, not_zero, c.in_err-refused_masks.ensures))

pub returns-in_err-refused_scratch : goal.returns-in_err-refused_scratch
returns-in_err-refused_scratch c =
    rw (handed_on _ _ c.from_residual-in_err-refused_scratch.ensures.1) (search (scratch_stops, not_zero, c.in_ok-refused_masks.ensures, c.in_err-refused_scratch.ensures))

pub returns-then-log-log_length : goal.returns-then-log-log_length
returns-then-log-log_length c = search (at_14, c.in_ok-refused_masks.ensures, c.in_ok-refused_scratch.ensures)

pub returns : goal.returns
returns c = search (at_end, c.in_ok-refused_masks.ensures, c.in_ok-refused_scratch.ensures)
