-- What is promised of the log that an accepted call leaves holds.
use mathlib.Core.Path.{◌≡◌}
use mathlib.Core.List.{List}
use Prim.Native.Nat.{ℕ, ◌<◌}
use lib.ListN.{length}
use Rattle.refusals.specs.Left.{left}
use Rattle.buffers.proofs.Written.{in_front_at}
use Rattle.table.specs.Balanced.{at}
use Rattle.lookup.specs.declared.Case.{Case}
use Rattle.lookup.specs.Call.{log_of, log_length}
use Rattle.lookup.specs.Refusals.{logged_refusal}
use Rattle.lookup.specs.Promises.{LogLong, WideAsNarrow}
use Rattle.lookup.proofs.Refused.{logged_case}
use Rattle.lookup.proofs.Promises.{log_long, wide_as_narrow}
use Rattle.calls.specs.Reply.{logged_log}
use Rattle.calls.specs.Promises.{LeftAsNarrow}

-- an entry of the log that is left is that of the log as it is defined
pub left_at : (table scratch lent : List ℕ) (c : Case) (i : ℕ) → logged_refusal c table scratch lent ≡ 0 → i < log_length c.method c.n
    → at (logged_log c table scratch lent) i ≡ at (log_of c table) i
unfolding LogLong logged_log left at
left_at table scratch lent c i e h =
    let long : length (log_of c table) ≡ log_length c.method c.n = (log_long table c (logged_case c table scratch lent e)).0 in
    rw e (in_front_at (log_of c table) lent i (rw long h))

pub left_as_narrow : LeftAsNarrow
unfolding LeftAsNarrow WideAsNarrow
left_as_narrow table scratch lent c e i h =
    rw (left_at table scratch lent c i e h) ((wide_as_narrow table c (logged_case c table scratch lent e)).2 i)
