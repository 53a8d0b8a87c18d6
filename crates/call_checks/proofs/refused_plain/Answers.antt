-- `call_checks::refused_plain` meets its contract.
use Rattle.refusals.proofs.Numbers.{not_zero, handed_on}
use Rattle.call_checks.proofs.Checking.{at_case, at_scratch, width_small}
use Rattle.call_checks.proofs.refused_plain.Goals as goal

pub returns-in_err-refused_case : goal.returns-in_err-refused_case
returns-in_err-refused_case c = rw (handed_on _ _ c.from_residual.ensures.1) (search (at_case, not_zero, c.in_err-refused_case.ensures))

pub refused_scratch-requires : goal.refused_scratch-requires
refused_scratch-requires c = width_small _ _ c.in_ok-refused_case.ensures

pub returns : goal.returns
returns c = search (at_scratch, c.in_ok-refused_case.ensures)
