use native.Mathlib.Omega.{arith}
use Rattle.linear.specs.Layer.{odd_common}
use Rattle.linear.proofs.Matrix.{mapping_begins, mapping_turns, mapping_ends}
use Rattle.linear.proofs.mapped.Goals as goal

pub loop-i-init : goal.loop-i-init
loop-i-init c = search mapping_begins

pub overflow_cast-odd : goal.overflow_cast-odd
overflow_cast-odd c = omega (arith, c.type_inv.rows c.loop-i.i)

pub loop-i-preserved : goal.loop-i-preserved
unfolding odd_common
loop-i-preserved c = search mapping_turns

pub returns : goal.returns
returns c = search mapping_ends
