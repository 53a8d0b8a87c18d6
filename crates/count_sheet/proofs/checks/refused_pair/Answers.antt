-- `count_sheet::checks::refused_pair` meets its contract.
use Rattle.refusals.proofs.Numbers.{not_zero, handed_on}
use Rattle.count_sheet.proofs.Checking.{at_table}
use Rattle.count_sheet.proofs.checks.refused_pair.Goals as goal

pub returns-in_err-table_refusal : goal.returns-in_err-table_refusal
returns-in_err-table_refusal c = rw (handed_on _ _ c.from_residual.ensures.1) (search (at_table, not_zero, c.in_err-table_refusal.ensures))
