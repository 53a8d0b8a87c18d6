-- `method2::fill` meets its contract. The invariant is `Filling`.
use Rattle.method2.proofs.Filling.{Filling}
use Rattle.method2.proofs.fill.Given as goal

abbrev pub invariant-loop-a : goal.invariant-loop-a
invariant-loop-a l = Filling l.lookup.case l.lookup.table.now l.initial.scratch l.scratch l.a
