-- `chain::refused` meets its contract.
use Rattle.refusals.proofs.Numbers.{not_zero, handed_on}
use Rattle.chain.proofs.Checking.{at_first_box, at_second_box, at_18, at_first_other, at_second_other}
use Rattle.chain.proofs.refused.Goals as goal

pub returns-in_err-refused_box : goal.returns-in_err-refused_box
returns-in_err-refused_box c = rw (handed_on _ _ c.from_residual.ensures.1) (search (at_first_box, not_zero, c.in_err-refused_box.ensures))

pub returns-in_err-refused_box-2 : goal.returns-in_err-refused_box-2
returns-in_err-refused_box-2 c =
    rw (handed_on _ _ c.from_residual-in_err-refused_box-2.ensures.1)
    (search (at_second_box, not_zero, c.in_ok-refused_box.ensures, c.in_err-refused_box-2.ensures))

pub returns-then-first-second : goal.returns-then-first-second
returns-then-first-second c = search (at_18, c.in_ok-refused_box.ensures, c.in_ok-refused_box-2.ensures)

pub returns-in_err-refused_other : goal.returns-in_err-refused_other
returns-in_err-refused_other c =
    rw (handed_on _ _ c.from_residual-in_err-refused_other.ensures.1)
    (search (at_first_other, not_zero, c.in_ok-refused_box.ensures, c.in_ok-refused_box-2.ensures, c.in_err-refused_other.ensures))

pub returns : goal.returns
returns c = search (at_second_other, c.in_ok-refused_box.ensures, c.in_ok-refused_box-2.ensures, c.in_ok-refused_other.ensures)
