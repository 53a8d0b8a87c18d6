-- `call_checks::refused_box` meets its contract.
use Rattle.call_checks.proofs.Checking.{at_2, at_table}
use Rattle.call_checks.proofs.refused_box.Goals as goal

pub returns-then-not-known : goal.returns-then-not-known
returns-then-not-known c = search at_2

pub returns : goal.returns
returns c = search at_table
