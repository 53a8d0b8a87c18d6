-- `log_entries::value` meets its contract.
use mathlib.Core.Path.{refl}
use Rattle.lookup.specs.Entry.{value_of}
use Rattle.log_entries.proofs.value.Goals as goal

pub returns : goal.returns
unfolding value_of
returns c = refl
