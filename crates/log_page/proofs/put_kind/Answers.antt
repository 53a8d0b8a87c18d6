-- `log_page::put_kind` meets its contract.
use Rattle.log_page.proofs.KindLines.{none_long, none_left, kind_long, kind_left}
use Rattle.log_page.proofs.put_kind.Goals as goal

pub returns-then-times-eq0-clause-value : goal.returns-then-times-eq0-clause-value
returns-then-times-eq0-clause-value c = search none_long

pub returns-then-times-eq0-clause-output_after : goal.returns-then-times-eq0-clause-output_after
returns-then-times-eq0-clause-output_after c = search none_left

pub returns-clause-value : goal.returns-clause-value
returns-clause-value c = search kind_long

pub returns-clause-output_after : goal.returns-clause-output_after
returns-clause-output_after c = search kind_left
