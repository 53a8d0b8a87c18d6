-- `screening::fed` meets its contract. The invariant is `Fed`: the window holds the bytes passed, and none stood too often.
use Rattle.screening.proofs.Feeding.{Fed}
use Rattle.screening.proofs.fed.Given as goal

abbrev pub invariant-loop-position : goal.invariant-loop-position
invariant-loop-position l = Fed l.run l.window l.position
