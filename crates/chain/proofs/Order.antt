-- The order of the refusals in cases: each computes to its number.
use mathlib.Core.Path.{refl}
use Rattle.bits.specs.Xor.{◌⊕◌}
use Rattle.refusals.specs.Checks.{first_of}
use Rattle.refusals.specs.Tests.{outside, any_from}
use Rattle.table.specs.Balanced.{at, count_of}
use Rattle.table.specs.Fit.{occurs, each_value, equally_often, closed, fit}
use Rattle.table.specs.Tabulate.{tabulate}
use Rattle.table.specs.Refusals.{table_checks}
use Rattle.lookup.specs.Case.{Q}
use Rattle.lookup.specs.Row.{masked}
use Rattle.lookup.specs.Method2.{r_prime, scratch_2, answer_2}
use Rattle.lookup.specs.Method5.{copied, answer_5}
use Rattle.lookup.specs.Methods.{among, found, known, method_of}
use Rattle.lookup.specs.Call.{answer, log_length, scratch_length}
use Rattle.lookup.specs.Refusals.{method_checks, untaken, mask_checks, dirty, scratch_checks, log_checks, box_checks, other_checks}
use Rattle.chain.specs.Chain.{second_case, following, chain_checks, chain_refusal}
use Rattle.chain.specs.Order.{OrderWorked}

pub order_worked : OrderWorked
unfolding OrderWorked chain_refusal chain_checks following second_case answer first_of outside any_from at count_of occurs each_value
    equally_often closed fit table_checks Q masked r_prime scratch_2 answer_2 tabulate copied answer_5 among found known method_of
    log_length scratch_length method_checks untaken mask_checks dirty scratch_checks log_checks box_checks other_checks ◌⊕◌
order_worked = refl
