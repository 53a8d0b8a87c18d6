-- `method3::prepare` meets its contract. The invariant is `Front`.
use Rattle.buffers.proofs.Front.{Front}
use Rattle.method3.proofs.prepare.Given as goal

abbrev pub invariant-loop-i : goal.invariant-loop-i
invariant-loop-i l = Front l.other l.size l.initial.scratch l.scratch l.i
