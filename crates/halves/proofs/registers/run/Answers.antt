-- `halves::registers::run` meets its contract.
use Rattle.halves.proofs.Storing.{read_share}
use Rattle.halves.proofs.registers.run.Goals as goal

pub returns-clause-share0_after : goal.returns-clause-share0_after
returns-clause-share0_after c = search read_share

pub returns-clause-share1_after : goal.returns-clause-share1_after
returns-clause-share1_after c = search read_share

pub returns-clause-share2_after : goal.returns-clause-share2_after
returns-clause-share2_after c = search read_share
