-- `log_entries::kind` meets its contract.
use mathlib.Core.Path.{refl}
use Rattle.lookup.specs.Entry.{kind_of}
use Rattle.log_entries.proofs.kind.Goals as goal

pub returns : goal.returns
unfolding kind_of
returns c = refl
