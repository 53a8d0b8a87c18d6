-- What is promised of the log that an accepted logged call leaves. Each is a type; its proof stands in proofs/Promises.antt.
use Rattle.std.specs.Prelude.{◌≡◌, List, ℕ, ◌<◌}
use Rattle.table.specs.Balanced.{at}
use Rattle.lookup.specs.declared.Case.{Case}
use Rattle.lookup.specs.NarrowEntry.{narrow_log, SaysTheSame}
use Rattle.lookup.specs.Call.{log_length}
use Rattle.lookup.specs.Refusals.{logged_refusal}
use Rattle.calls.specs.Reply.{logged_log}

-- each of its entries has the kind and the value of the entry that a log of 16-bit entries has at its position
unfoldable pub LeftAsNarrow : Type 0
LeftAsNarrow =
    (table scratch lent : List ℕ) (c : Case) → logged_refusal c table scratch lent ≡ 0 → (i : ℕ) → i < log_length c.method c.n →
    SaysTheSame (at (logged_log c table scratch lent) i) (at (narrow_log c table) i)
