-- `frame::encrypt` meets its contract.
use Rattle.frame.proofs.Replies.{frame_made}
use Rattle.frame_lookups.proofs.Clearing.{last_clears}
use Rattle.frame.proofs.encrypt.Goals as goal

pub returns-clause-value : goal.returns-clause-value
returns-clause-value c = search frame_made

pub returns-clause-scratch_after : goal.returns-clause-scratch_after
returns-clause-scratch_after c = search last_clears
