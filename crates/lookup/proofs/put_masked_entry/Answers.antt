-- `lookup::put_masked_entry` meets its contract.
use mathlib.Core.Path.{◌≡◌, ◌∙◌}
use mathlib.Core.List.{List}
use Prim.Native.Nat.{ℕ, ◌<◌}
use lib.ListN.{length, get_or, set, length-set}
use lib.Seq.{get_or-set_same, set-set}
use Rattle.bits.specs.Xor.{◌⊕◌}
use Rattle.table.specs.Balanced.{at}
use Rattle.lookup.specs.Row.{masked}
use Rattle.lookup.proofs.Runs.{in_table}
use Rattle.lookup.proofs.put_masked_entry.Goals as goal

-- a byte that is written, and has a mask added then
module _ (before after : List ℕ) (to first second : ℕ)
    (e : after ≡ set (set before to first) to (get_or (set before to first) to 0 ⊕ second)) where
  put_long : length after ≡ length before
  put_long = rw e (length-set (set before to first) to _ ∙ length-set before to first)

  put_both : to < length before → after ≡ set before to (first ⊕ second)
  put_both h = e ∙ set-set before to first _ ∙ rw (get_or-set_same before to first 0 h)

pub bounds-table-index : goal.bounds-table-index
bounds-table-index c = search in_table

pub returns : goal.returns
unfolding masked at ◌⊕◌
returns c = search put_both
