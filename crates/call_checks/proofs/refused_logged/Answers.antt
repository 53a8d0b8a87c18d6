-- `call_checks::refused_logged` meets its contract.
use Rattle.refusals.proofs.Numbers.{not_zero, handed_on}
use Rattle.call_checks.proofs.Checking.{input_most, output_most, at_logged_box, at_other}
use Rattle.call_checks.proofs.refused_logged.Goals as goal

pub returns-in_err-refused_box : goal.returns-in_err-refused_box
returns-in_err-refused_box c = rw (handed_on _ _ c.from_residual.ensures.1) (search (at_logged_box, not_zero, c.in_err-refused_box.ensures))

pub refused_other-requires-clause-n_bound : goal.refused_other-requires-clause-n_bound
refused_other-requires-clause-n_bound c = input_most _ _ c.in_ok-refused_box.ensures

pub refused_other-requires-clause-m_bound : goal.refused_other-requires-clause-m_bound
refused_other-requires-clause-m_bound c = output_most _ _ c.in_ok-refused_box.ensures

pub returns : goal.returns
returns c = search (at_other, c.in_ok-refused_box.ensures)
