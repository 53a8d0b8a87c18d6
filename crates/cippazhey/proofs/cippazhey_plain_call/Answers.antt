-- `cippazhey::cippazhey_plain_call` meets its contract.
use Rattle.cippazhey.proofs.Exported.{share_fits, share_is, number_is}
use Rattle.cippazhey.proofs.cippazhey_plain_call.Goals as goal

pub overflow_cast-result : goal.overflow_cast-result
overflow_cast-result c = search (share_fits, c.in-Ok.ensures.value)

pub returns-in-Ok-clause-value : goal.returns-in-Ok-clause-value
returns-in-Ok-clause-value c = search (share_is, c.in-Ok.ensures.value)

pub returns-in-Err-clause-value : goal.returns-in-Err-clause-value
returns-in-Err-clause-value c = search (number_is, c.in-Err.ensures.value)
