-- `frame_rounds::ten` meets its contract. The invariant is `Turning`.
use Rattle.frame_rounds.proofs.Turning.{Turning}
use Rattle.frame_rounds.proofs.ten.Given as goal

abbrev pub invariant-loop-i : goal.invariant-loop-i
invariant-loop-i l = Turning l.random l.initial.scratch l.initial.s l.initial.key l.scratch l.s l.key l.i
