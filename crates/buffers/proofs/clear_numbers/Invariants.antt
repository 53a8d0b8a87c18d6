-- `buffers::clear_numbers` meets its contract. The invariant is `Front`, with the buffer's own length as the size.
use lib.ListN.{length}
use Rattle.buffers.proofs.Front.{Front}
use Rattle.buffers.proofs.clear_numbers.Given as goal

abbrev pub invariant-loop-at : goal.invariant-loop-at
invariant-loop-at l = Front 0 (length l.initial.numbers) l.initial.numbers l.numbers l.at
