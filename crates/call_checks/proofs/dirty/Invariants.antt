-- `call_checks::dirty` meets its contract. The invariant is `Marked`.
use Rattle.call_checks.proofs.Scratch.{Marked}
use Rattle.call_checks.proofs.dirty.Given as goal

abbrev pub invariant-loop-i : goal.invariant-loop-i
invariant-loop-i l = Marked l.scratch l.cells l.size l.i
