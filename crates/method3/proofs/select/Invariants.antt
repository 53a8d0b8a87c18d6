-- `method3::select` meets its contract. The invariant is `Selecting`.
use Rattle.method3.proofs.Selecting.{Selecting}
use Rattle.method3.proofs.select.Given as goal

abbrev pub invariant-loop-a : goal.invariant-loop-a
invariant-loop-a l = Selecting l.lookup.case l.lookup.table.now l.registers l.a
