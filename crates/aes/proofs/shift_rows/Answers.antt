-- `aes::shift_rows` meets its contract.
use mathlib.Core.Path.{refl}
use Rattle.table.specs.Balanced.{at}
use Rattle.aes.specs.State.{four, column, byte, state_of}
use Rattle.aes.specs.Steps.{shift_rows}
use Rattle.aes.proofs.shift_rows.Goals as goal

pub returns : goal.returns
unfolding shift_rows state_of byte column four at
returns c = refl
