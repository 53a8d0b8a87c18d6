-- `halves::registers::store` meets its contract.
use Rattle.halves.proofs.Bounds.{half_byte}
use Rattle.halves.proofs.Storing.{stored_0, stored_1, stored_2}
use Rattle.halves.proofs.registers.store.Goals as goal

pub overflow_cast-a : goal.overflow_cast-a
overflow_cast-a c = search half_byte

pub overflow_cast-b : goal.overflow_cast-b
overflow_cast-b c = search half_byte

pub overflow_cast-once : goal.overflow_cast-once
overflow_cast-once c = search half_byte

pub overflow_cast-c : goal.overflow_cast-c
overflow_cast-c c = search half_byte

pub returns-clause-a_after : goal.returns-clause-a_after
returns-clause-a_after c = search stored_0

pub returns-clause-b_after : goal.returns-clause-b_after
returns-clause-b_after c = search stored_1

pub returns-clause-c_after : goal.returns-clause-c_after
returns-clause-c_after c = search stored_2
