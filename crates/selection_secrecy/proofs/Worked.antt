-- The counts of one pair of rows, by computation.
use mathlib.Core.Path.{refl}
use Rattle.bits.specs.Xor.{◌⊕◌}
use Rattle.counting.specs.Sum.{sum}
use Rattle.counting.specs.Choice.{over}
use Rattle.table.specs.Balanced.{at}
use Rattle.lookup.specs.Entry.{entry, value_of}
use Rattle.log_entries.specs.Entries.{entries}
use Rattle.secrecy.specs.Count.{value_at, shows}
use Rattle.halves.specs.Halves.{half, c3, masked, registers, share}
use Rattle.selection.specs.Log.{bit_values, half_values}
use Rattle.selection.specs.Log.{input_entries, half_entries, share_entries, log_of}
use Rattle.selection_secrecy.specs.Count.{selection_widths, chosen_selection, selection_count}
use Rattle.selection_secrecy.specs.Promises.{PairCounted}

pub pair_counted : PairCounted
unfolding PairCounted selection_count selection_widths chosen_selection over sum shows value_at value_of entry at entries log_of input_entries
    half_entries share_entries half c3 masked registers share bit_values half_values ◌⊕◌
pair_counted = (refl, refl)
