-- What an accepted call leaves in the scratch, answers and logs: what its method says.
use Rattle.std.specs.Prelude.{List, ℕ, ◌^◌}
use Rattle.lookup.specs.declared.Case.{Case}
use Rattle.lookup.specs.Case.{Q}
use Rattle.lookup.specs.Layout.{lines, layout_size}
use Rattle.lookup.specs.Row.{row_entry}
use Rattle.lookup.specs.Methods.{method_of}

unfoldable pub scratch_after : Case → (table scratch : List ℕ) → List ℕ
scratch_after c table scratch = (method_of c.method).scratch c table scratch

unfoldable pub answer : Case → (table : List ℕ) → ℕ
answer c table = (method_of c.method).answer c table

unfoldable pub log_of : Case → (table : List ℕ) → List ℕ
log_of c table = lines (row_entry c table) (Q c) (method_of c.method).layout

unfoldable pub log_length : (method n : ℕ) → ℕ
log_length method n = layout_size (2 ^ n) (method_of method).layout

unfoldable pub scratch_length : (method n : ℕ) → ℕ
scratch_length method n = (method_of method).scratch_length (2 ^ n)
