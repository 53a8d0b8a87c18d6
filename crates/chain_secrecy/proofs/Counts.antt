-- The counts in numbers: how many choices there are, and counts that compute to what is promised.
use mathlib.Core.Path.{◌≡◌, refl, ◌∙◌}
use Prim.Native.Nat.{ℕ, ◌+◌, ◌*◌, ◌^◌}
use native.Mathlib.Omega.{arith}
use lib.Pow.{pow-add}
use Rattle.bits.specs.Xor.{◌⊕◌}
use Rattle.counting.specs.Sum.{sum}
use Rattle.counting.specs.Choice.{over, total}
use Rattle.counting.proofs.Over.{choices}
use Rattle.table.specs.Balanced.{at}
use Rattle.table.specs.Tabulate.{tabulate}
use Rattle.lookup.specs.Case.{Q}
use Rattle.lookup.specs.Entry.{entry, value_of}
use Rattle.lookup.specs.Row.{masked}
use Rattle.lookup.specs.Method2.{r_prime, scratch_2, answer_2}
use Rattle.lookup.specs.Method3.{comparison_table, place_3, compared, registers_3, answer_3}
use Rattle.lookup.specs.Method5.{copied, answer_5}
use Rattle.lookup.specs.Methods.{found, method_of}
use Rattle.lookup.specs.Call.{answer, log_of}
use Rattle.lookup.specs.Layout.{pass_lines, passes_lines, lines}
use Rattle.secrecy.specs.Count.{chosen_case, mask_widths, value_at}
use Rattle.chain.specs.Chain.{second_case, following}
use Rattle.chain_secrecy.specs.Count.{boxes, chain_widths, first_case, second_own, defined_logs, count_by, chain_count}
use Rattle.chain_secrecy.specs.Promises.{ChoicesCounted, CountsComputed}

pub choices_counted : ChoicesCounted
unfolding ChoicesCounted chain_widths mask_widths method_of found total
choices_counted n m m' =
    let one : ℕ = 3 * n + 2 * m in
    let two : ℕ = m + 2 * m' in
    rw (
      drawn 2 2 one two (omega arith),
      drawn 2 3 one (1 + two) (omega arith),
      drawn 2 5 one (2 * m') (omega arith),
      drawn 3 2 (1 + one) two (omega arith),
      drawn 3 3 (1 + one) (1 + two) (omega arith),
      drawn 3 5 (1 + one) (2 * m') (omega arith),
      drawn 5 2 (2 * n + 2 * m) two (omega arith),
      drawn 5 3 (2 * n + 2 * m) (1 + two) (omega arith),
      drawn 5 5 (2 * n + 2 * m) (2 * m') (omega arith),
      pow-add 2 1 one,
      pow-add 2 1 two,
    )
  where
    -- what the two calls draw, in bits
    drawn : (f g first second : ℕ) → total (chain_widths (boxes f g n m m')) ≡ first + second
        → over (chain_widths (boxes f g n m m')) (λ c. 1) ≡ 2 ^ first * 2 ^ second
    drawn f g first second e = choices _ ∙ rw e (pow-add 2 first second)

pub counts_computed : CountsComputed
unfolding CountsComputed chain_count count_by defined_logs chain_widths first_case second_own following second_case over sum chosen_case
    mask_widths value_at log_of lines passes_lines pass_lines method_of found Q entry value_of masked r_prime scratch_2 answer_2
    comparison_table place_3 compared registers_3 answer_3 tabulate copied answer_5 answer at ◌⊕◌
counts_computed = refl
