-- `log_page::count_kinds` meets its contract.
use mathlib.Core.Path.{refl}
use Rattle.log_page.proofs.KindLines.{kind_known, counting_begins, counter_fits, counting_turns, counting_ends}
use Rattle.log_page.proofs.count_kinds.Goals as goal

pub loop-entry-init : goal.loop-entry-init
loop-entry-init c = counting_begins _ _ refl

pub bounds-counts-kind : goal.bounds-counts-kind
bounds-counts-kind c = search kind_known

pub overflow_add-counts : goal.overflow_add-counts
overflow_add-counts c = search counter_fits

pub bounds-counts-kind-in-loop-entry : goal.bounds-counts-kind-in-loop-entry
bounds-counts-kind-in-loop-entry c = search kind_known

pub loop-entry-preserved : goal.loop-entry-preserved
loop-entry-preserved c = search counting_turns

pub returns : goal.returns
returns c = search counting_ends
