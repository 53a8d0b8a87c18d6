-- `count_sheet::choices::masks` meets its contract. The invariant is `Taking`.
use Rattle.count_sheet.proofs.Masks.{Taking}
use Rattle.count_sheet.proofs.choices.masks.Given as goal

abbrev pub invariant-loop-i : goal.invariant-loop-i
invariant-loop-i l = Taking l.widths l.number l.masks l.left l.i
