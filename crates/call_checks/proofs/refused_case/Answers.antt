-- `call_checks::refused_case` meets its contract.
use Rattle.refusals.proofs.Numbers.{not_zero, handed_on}
use Rattle.call_checks.proofs.Checking.{input_most, output_most, at_box, at_masks}
use Rattle.call_checks.proofs.refused_case.Goals as goal

pub returns-in_err-refused_box : goal.returns-in_err-refused_box
returns-in_err-refused_box c = rw (handed_on _ _ c.from_residual.ensures.1) (search (at_box, not_zero, c.in_err-refused_box.ensures))

pub refused_masks-requires-clause-n_bound : goal.refused_masks-requires-clause-n_bound
refused_masks-requires-clause-n_bound c = input_most _ _ c.in_ok-refused_box.ensures

pub refused_masks-requires-clause-m_bound : goal.refused_masks-requires-clause-m_bound
refused_masks-requires-clause-m_bound c = output_most _ _ c.in_ok-refused_box.ensures

pub returns : goal.returns
returns c = search (at_masks, c.in_ok-refused_box.ensures)
