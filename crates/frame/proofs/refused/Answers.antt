-- `frame::refused` meets its contract.
use Rattle.frame.proofs.Checks.{at_26, at_27, at_13, at_none}
use Rattle.frame.proofs.refused.Goals as goal

pub returns-then-random-ne632 : goal.returns-then-random-ne632
returns-then-random-ne632 c = search at_26

pub returns-then-is_some : goal.returns-then-is_some
returns-then-is_some c = search (at_27, c.if-is_some.ensures)

pub returns-then-scratch-lt256 : goal.returns-then-scratch-lt256
returns-then-scratch-lt256 c = search (at_13, c.if-is_some.ensures)

pub returns : goal.returns
returns c = search (at_none, c.if-is_some.ensures)
