-- `wide_table::narrow` meets its contract. The invariant is `Pasting`.
use Rattle.buffers.proofs.Pasting.{Pasting}
use Rattle.wide_table.proofs.narrow.Given as goal

abbrev pub invariant-loop-i : goal.invariant-loop-i
invariant-loop-i l = Pasting l.initial.bytes l.bytes 0 l.table l.i
