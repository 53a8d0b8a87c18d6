-- The count over narrow log entries, of 16 bits. `CountsAsNarrow` in Promises.antt says that it is the count over the entries of today.
use Rattle.std.specs.Prelude.{cond, ◌&&◌, List, ℕ, eqb}
use Rattle.counting.specs.Choice.{over}
use Rattle.table.specs.Balanced.{at}
use Rattle.lookup.specs.NarrowEntry.{narrow_value_of, narrow_log}
use Rattle.secrecy.specs.Count.{single, chosen_case, mask_widths}

unfoldable pub narrow_shows : (i j u v : ℕ) → (log : List ℕ) → ℕ
narrow_shows i j u v log = cond (eqb (narrow_value_of (at log i)) u && eqb (narrow_value_of (at log j)) v) 1 0

unfoldable pub narrow_count : (table : List ℕ) → (method n m x i j u v : ℕ) → ℕ
narrow_count table method n m x i j u v =
    over (mask_widths method n m) (λ c. narrow_shows i j u v (narrow_log (chosen_case single method n m x c) table))
