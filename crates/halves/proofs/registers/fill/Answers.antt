-- `halves::registers::fill` meets its contract.
use Rattle.halves.proofs.Bounds.{place_below, place_most}
use Rattle.halves.proofs.Storing.{filled}
use Rattle.halves.proofs.registers.fill.Goals as goal

pub store-requires-clause-place_bound : goal.store-requires-clause-place_bound
store-requires-clause-place_bound c = search place_below

pub overflow_sub-place : goal.overflow_sub-place
overflow_sub-place c = search place_most

pub returns-clause-a_after : goal.returns-clause-a_after
returns-clause-a_after c = search filled

pub returns-clause-b_after : goal.returns-clause-b_after
returns-clause-b_after c = search filled

pub returns-clause-c_after : goal.returns-clause-c_after
returns-clause-c_after c = search filled
