-- `cippazhey::cippazhey_encrypt_frame` meets its contract.
use Rattle.cippazhey.proofs.Framed.{zero_is, share1_given, share2_given, share3_given, number_is, share_kept}
use Rattle.cippazhey.proofs.cippazhey_encrypt_frame.Goals as goal

pub returns-in-Ok-clause-value : goal.returns-in-Ok-clause-value
returns-in-Ok-clause-value c = search (zero_is, c.in-Ok.ensures.value)

pub returns-in-Ok-clause-share1_after : goal.returns-in-Ok-clause-share1_after
returns-in-Ok-clause-share1_after c = search (share1_given, c.in-Ok.ensures.value)

pub returns-in-Ok-clause-share2_after : goal.returns-in-Ok-clause-share2_after
returns-in-Ok-clause-share2_after c = search (share2_given, c.in-Ok.ensures.value)

pub returns-in-Ok-clause-share3_after : goal.returns-in-Ok-clause-share3_after
returns-in-Ok-clause-share3_after c = search (share3_given, c.in-Ok.ensures.value)

pub returns-in-Err-clause-value : goal.returns-in-Err-clause-value
returns-in-Err-clause-value c = search (number_is, c.in-Err.ensures.value)

pub returns-in-Err-clause-share1_after : goal.returns-in-Err-clause-share1_after
returns-in-Err-clause-share1_after c = search (share_kept, c.in-Err.ensures.value)

pub returns-in-Err-clause-share2_after : goal.returns-in-Err-clause-share2_after
returns-in-Err-clause-share2_after c = search (share_kept, c.in-Err.ensures.value)

pub returns-in-Err-clause-share3_after : goal.returns-in-Err-clause-share3_after
returns-in-Err-clause-share3_after c = search (share_kept, c.in-Err.ensures.value)
