-- `halves::place` meets its contract.
use Rattle.halves.proofs.Bounds.{bits_byte, place_fits, placed}
use Rattle.halves.proofs.place.Goals as goal

pub overflow_cast-selection : goal.overflow_cast-selection
overflow_cast-selection c = search bits_byte

pub overflow_cast-result-2 : goal.overflow_cast-result-2
overflow_cast-result-2 c = search place_fits

pub returns : goal.returns
returns c = search placed
