-- `log_print::put_answer` meets its contract.
use Rattle.log_print.proofs.Entries.{listing_whole, answer_long}
use Rattle.log_print.proofs.put_answer.Goals as goal

pub returns-clause-value : goal.returns-clause-value
returns-clause-value c = search answer_long

pub returns-clause-output_after : goal.returns-clause-output_after
returns-clause-output_after c = search listing_whole
