-- `method2::logged::turn` meets its contract.
use Rattle.bits.specs.Xor.{◌⊕◌}
use Rattle.table.specs.Balanced.{at}
use Rattle.lookup.specs.Row.{masked}
use Rattle.lookup.proofs.Runs.{in_table}
use Rattle.method2.proofs.Filling.{from_first, place_byte}
use Rattle.method2.proofs.logged.turn.Goals as goal

pub bounds-lookup-from : goal.bounds-lookup-from
bounds-lookup-from c = search in_table

pub overflow_cast-result-2 : goal.overflow_cast-result-2
overflow_cast-result-2 c = search (place_byte, from_first)

pub returns : goal.returns
unfolding masked at ◌⊕◌
returns c = rw c.r_prime.ensures
