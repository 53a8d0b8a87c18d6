-- The worked sheets come out.
use mathlib.Core.Path.{◌≡◌, refl, ◌∙◌}
use mathlib.Core.List.{[], ◌∷◌}
use lib.Dec.{lit<}
use lib.ListN.{replicate}
use Rattle.bits.specs.Xor.{◌⊕◌}
use Rattle.counting.specs.Sum.{sum}
use Rattle.counting.specs.Choice.{over}
use Rattle.refusals.specs.Checks.{first_of}
use Rattle.refusals.specs.Tests.{outside, any_from}
use Rattle.refusals.specs.Left.{left}
use Rattle.buffers.specs.Written.{in_front}
use Rattle.table.specs.Balanced.{at, count_of}
use Rattle.table.specs.Fit.{occurs, each_value, equally_often, closed, fit}
use Rattle.table.specs.Refusals.{table_checks}
use Rattle.table.specs.Tabulate.{tabulate}
use Rattle.lookup.specs.Case.{Q}
use Rattle.lookup.specs.Entry.{entry, value_of}
use Rattle.lookup.specs.Row.{masked}
use Rattle.lookup.specs.Method2.{r_prime, scratch_2, answer_2}
use Rattle.lookup.specs.Method3.{comparison_table, place_3, compared, registers_3, answer_3}
use Rattle.lookup.specs.Method5.{copied, answer_5}
use Rattle.lookup.specs.Methods.{among, found, known, method_of}
use Rattle.lookup.specs.Call.{log_of, log_length, scratch_length}
use Rattle.lookup.specs.Layout.{pass_lines, passes_lines, lines}
use Rattle.secrecy.specs.Count.{chosen_case, mask_widths, value_at, shows, count}
use Rattle.count_sheet.specs.declared.ProbePair.{ProbePair}
use Rattle.count_sheet.specs.Refusals.{value_width, pair_checks, buffer_checks, sheet_checks, count_refusal}
use Rattle.count_sheet.specs.Sheet.{count_for, counts, sheet_left}
use Rattle.count_sheet.specs.Promises.{with_secret, SecretsAlike, worked, P12Right, WorkedRight}
use Rattle.count_sheet.proofs.Promises.{secrets_alike}

-- by computation for secret 0, and by `secrets_alike` for the other
first_secret : worked 2 0 0 21 ≡ 8 ∷ 8 ∷ 8 ∷ 8 ∷ 7 ∷ []
unfolding ◌⊕◌ sum over first_of outside any_from left in_front at count_of occurs each_value equally_often closed fit table_checks tabulate
    Q entry value_of masked r_prime scratch_2 answer_2 among found known method_of log_of log_length scratch_length pass_lines passes_lines
    lines chosen_case mask_widths value_at shows count value_width pair_checks buffer_checks sheet_checks count_refusal count_for counts
    sheet_left
first_secret = refl

pub p12_right : P12Right
unfolding P12Right SecretsAlike with_secret
p12_right x h =
    let p : ProbePair = record { method = 2; n = 1; m = 1; secret = 0; first = 0; second = 21 } in
    (secrets_alike (1 ∷ 0 ∷ []) (replicate 4 0) (replicate 28 0) (9 ∷ 9 ∷ 9 ∷ 9 ∷ 7 ∷ []) p x 0 h (lit< tt)).1 ∙ first_secret

pub worked_right : WorkedRight
unfolding WorkedRight ◌⊕◌ sum over first_of outside any_from left in_front at count_of occurs each_value equally_often closed fit
    table_checks tabulate Q entry value_of masked r_prime scratch_2 answer_2 comparison_table place_3 compared registers_3 answer_3 copied
    answer_5 among found known method_of log_of log_length scratch_length pass_lines passes_lines lines chosen_case mask_widths value_at
    shows count value_width pair_checks buffer_checks sheet_checks count_refusal count_for counts sheet_left
worked_right = (refl, refl, refl, refl, refl)
