-- `method5::fill_second` meets its contract. The invariant is `Second`.
use Rattle.method5.proofs.Copying.{Second}
use Rattle.method5.proofs.fill_second.Given as goal

abbrev pub invariant-loop-a : goal.invariant-loop-a
invariant-loop-a l = Second l.lookup.case l.initial.scratch l.scratch l.a
