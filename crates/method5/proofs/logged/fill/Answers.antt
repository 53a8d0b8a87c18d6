-- `method5::logged::fill` meets its contract.
use Rattle.method5.proofs.Filled.{filled_both}
use Rattle.method5.proofs.Turned.{passes_turned}
use Rattle.method5.proofs.logged.fill.Goals as goal

pub returns-clause-scratch_after : goal.returns-clause-scratch_after
returns-clause-scratch_after c = search filled_both

pub returns-clause-log_after : goal.returns-clause-log_after
returns-clause-log_after c = search passes_turned
