-- `call_checks::untaken` meets its contract.
use Rattle.call_checks.proofs.Masks.{untaken_r3, untaken_b}
use Rattle.call_checks.proofs.untaken.Goals as goal

pub returns-then-r3_most-case : goal.returns-then-r3_most-case
returns-then-r3_most-case c = search untaken_r3

pub returns : goal.returns
returns c = search untaken_b
