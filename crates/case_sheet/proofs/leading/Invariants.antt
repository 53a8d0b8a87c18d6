-- `case_sheet::leading` meets its contract. The invariant is `Found`.
use Rattle.case_sheet.proofs.Found.{Found}
use Rattle.case_sheet.proofs.leading.Given as goal

abbrev pub invariant-loop-i : goal.invariant-loop-i
invariant-loop-i l = Found l.edition l.line l.input l.initial.numbers l.numbers l.rest l.i
