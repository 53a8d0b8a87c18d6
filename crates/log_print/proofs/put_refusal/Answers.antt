-- `log_print::put_refusal` meets its contract.
use Rattle.log_print.proofs.Lines.{refusal_long, refusal_left}
use Rattle.log_print.proofs.put_refusal.Goals as goal

pub returns-clause-value : goal.returns-clause-value
returns-clause-value c = search refusal_long

pub returns-clause-output_after : goal.returns-clause-output_after
returns-clause-output_after c = search refusal_left
