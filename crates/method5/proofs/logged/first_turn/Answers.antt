-- `method5::logged::first_turn` meets its contract.
use Rattle.method5.proofs.Copying.{index_byte, index_in_table}
use Rattle.method5.proofs.logged.first_turn.Goals as goal

pub turn-requires-clause-r_bound : goal.turn-requires-clause-r_bound
turn-requires-clause-r_bound c = search index_byte

pub turn-requires-clause-r_in_bounds : goal.turn-requires-clause-r_in_bounds
turn-requires-clause-r_in_bounds c = search index_in_table
