-- `linear::mapped` meets its contract. The invariant is `Mapping`: the rows passed have set their bits.
use Rattle.linear.proofs.Matrix.{Mapping}
use Rattle.linear.proofs.mapped.Given as goal

abbrev pub invariant-loop-i : goal.invariant-loop-i
invariant-loop-i l = Mapping l.rows l.input l.i l.output
