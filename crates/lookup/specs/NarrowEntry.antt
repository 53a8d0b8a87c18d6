-- Narrow log entries, of 16 bits: kind × 256 + value. Logs had them before entries had 32 bits, and no call writes them. `WideAsNarrow` in
-- Promises.antt says that the entries of today tell the same.
use Rattle.std.specs.Prelude.{◌≡◌, List, ℕ, ◌+◌, ◌*◌, ◌/◌, ◌%◌, ◌<◌}
use Rattle.lookup.specs.declared.Case.{Case}
use Rattle.lookup.specs.Case.{Q}
use Rattle.lookup.specs.Layout.{lines}
use Rattle.lookup.specs.Methods.{method_of}

unfoldable pub narrow_entry : (kind value : ℕ) → ℕ
narrow_entry kind value = kind * 256 + value

unfoldable pub narrow_kind_of : (entry : ℕ) → ℕ
narrow_kind_of e = e / 256

unfoldable pub narrow_value_of : (entry : ℕ) → ℕ
narrow_value_of e = e % 256

-- the log of narrow entries: the same rows in the same order
unfoldable pub narrow_log : Case → (table : List ℕ) → List ℕ
narrow_log c table = lines (λ a r. narrow_entry r.kind (r.value c table a)) (Q c) (method_of c.method).layout

-- an entry has the kind and the value of a narrow one, and the value is below 256; in numbers, so that neither can be packed otherwise
abbrev pub SaysTheSame : (entry narrow : ℕ) → Type 0
SaysTheSame e narrow = (e / 65536 ≡ narrow / 256) × (e % 65536 ≡ narrow % 256) × (e % 65536 < 256)
