-- `method5::fill_first` meets its contract. The invariant is `First`.
use Rattle.method5.proofs.Copying.{First}
use Rattle.method5.proofs.fill_first.Given as goal

abbrev pub invariant-loop-a : goal.invariant-loop-a
invariant-loop-a l = First l.lookup.case l.lookup.table.now l.initial.scratch l.scratch l.a
