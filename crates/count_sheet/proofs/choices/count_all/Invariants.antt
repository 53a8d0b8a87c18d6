-- `count_sheet::choices::count_all` meets its contract. The invariant is `Tallied`.
use Rattle.count_sheet.proofs.Tallying.{Tallied}
use Rattle.count_sheet.proofs.choices.count_all.Given as goal

abbrev pub invariant-loop-number : goal.invariant-loop-number
invariant-loop-number l = Tallied l.pair l.table l.choices l.scratch l.log l.sheet l.number
