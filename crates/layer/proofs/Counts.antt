-- The counts in numbers: each computes to what is promised.
use mathlib.Core.Path.{refl}
use mathlib.Core.List.{flatten}
use Rattle.bits.specs.Xor.{◌⊕◌}
use Rattle.counting.specs.Sum.{sum}
use Rattle.counting.specs.Choice.{over}
use Rattle.table.specs.Balanced.{at}
use Rattle.lookup.specs.Case.{Q}
use Rattle.lookup.specs.Entry.{entry, value_of}
use Rattle.lookup.specs.Row.{masked}
use Rattle.lookup.specs.Method2.{r_prime, scratch_2, answer_2}
use Rattle.lookup.specs.Methods.{found, method_of}
use Rattle.lookup.specs.Call.{log_of}
use Rattle.lookup.specs.Layout.{pass_lines, passes_lines, lines}
use Rattle.secrecy.specs.Count.{chosen_case, mask_widths, value_at}
use Rattle.layer.specs.Layer.{layer_widths, places, call_case, count_by, layer_count}
use Rattle.layer.specs.Promises.{CountsComputed}

pub counts_computed : CountsComputed
unfolding CountsComputed layer_count count_by layer_widths flatten call_case places over sum chosen_case mask_widths value_at log_of lines
    passes_lines pass_lines method_of found Q entry value_of masked r_prime scratch_2 answer_2 at ◌⊕◌
counts_computed = refl
