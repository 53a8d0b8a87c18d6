-- `count_sheet::checks::refused` meets its contract.
use Rattle.refusals.proofs.Numbers.{not_zero, handed_on}
use Rattle.count_sheet.proofs.Checking.{pair_refused, buffers_refused, sheet_refused}
use Rattle.count_sheet.proofs.checks.refused.Goals as goal

pub returns-in_err-refused_pair : goal.returns-in_err-refused_pair
returns-in_err-refused_pair c =
    rw (handed_on _ _ c.from_residual.ensures.1) (search (pair_refused, not_zero, c.in_err-refused_pair.ensures))

pub returns-in_err-refused_buffers : goal.returns-in_err-refused_buffers
returns-in_err-refused_buffers c =
    rw (handed_on _ _ c.from_residual-in_err-refused_buffers.ensures.1)
    (search (buffers_refused, not_zero, c.in_ok-refused_pair.ensures, c.in_err-refused_buffers.ensures))

pub returns : goal.returns
returns c = search (sheet_refused, c.in_ok-refused_pair.ensures, c.in_ok-refused_buffers.ensures)
