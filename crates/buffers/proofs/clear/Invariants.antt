-- `buffers::clear` meets its contract. The invariant is `Front`, with the buffer's own length as the size.
use lib.ListN.{length}
use Rattle.buffers.proofs.Front.{Front}
use Rattle.buffers.proofs.clear.Given as goal

abbrev pub invariant-loop-i : goal.invariant-loop-i
invariant-loop-i l = Front 0 (length l.initial.buffer) l.initial.buffer l.buffer l.i
