-- A log entry is a 32-bit number: the high sixteen bits are the kind, the low sixteen the value. No code and no other
-- definition says how the two are packed; the promises `EntryReadBack` and `WideAsNarrow` hold it to its numbers.
use Rattle.std.specs.Prelude.{ℕ, ◌+◌, ◌*◌, ◌/◌, ◌%◌}

unfoldable pub entry : (kind value : ℕ) → ℕ
entry kind value = kind * 65536 + value

unfoldable pub kind_of : (entry : ℕ) → ℕ
kind_of e = e / 65536

unfoldable pub value_of : (entry : ℕ) → ℕ
value_of e = e % 65536

-- above every kind: a lookup's are 1 to 18 (`KindsKnown`), those of a selection go up to 29
abbrev pub kind_limit : ℕ
kind_limit = 30
