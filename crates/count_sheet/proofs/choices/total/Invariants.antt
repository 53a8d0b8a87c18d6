-- `count_sheet::choices::total` meets its contract. The invariant is `Summed`.
use Rattle.count_sheet.proofs.Masks.{Summed}
use Rattle.count_sheet.proofs.choices.total.Given as goal

abbrev pub invariant-loop-width : goal.invariant-loop-width
invariant-loop-width l = Summed l.fn.widths l.sum l.width-index
