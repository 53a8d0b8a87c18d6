-- The bench sheet holds: each line computes to what the sheet says; that of P6's accepted table holds by law.
use mathlib.Core.Path.{◌≡◌, refl, ap₂, ◌∙◌}
use mathlib.Core.Bool.{true, false}
use mathlib.Core.List.{List, [], ◌∷◌, map}
use Prim.Native.Nat.{ℕ, zero, suc, ◌≤◌}
use lib.Dec.{lit≤}
use lib.ListN.{length, take, drop, replicate}
use Rattle.bits.specs.Xor.{◌⊕◌}
use Rattle.counting.specs.Sum.{sum}
use Rattle.counting.specs.Choice.{over, width}
use Rattle.counting.proofs.Over.{over_ext, over_none}
use Rattle.refusals.specs.Checks.{first_of}
use Rattle.refusals.specs.Tests.{outside, any_from}
use Rattle.shares.specs.Shares.{width_refusal, reply, secret_reply, join}
use Rattle.linear.specs.Layer.{odd_common, mapped, layer_refusal, layer}
use lib.Count.{ones}
use Rattle.table.specs.Balanced.{at, count_of}
use Rattle.table.specs.Fit.{occurs, each_value, equally_often, closed, fit}
use Rattle.table.specs.Tabulate.{tabulate}
use Rattle.table.specs.Refusals.{table_checks, table_refusal}
use Rattle.lookup.specs.Case.{Q}
use Rattle.lookup.specs.Entry.{entry, kind_of, value_of}
use Rattle.lookup.specs.Row.{masked}
use Rattle.lookup.specs.Method2.{r_prime, scratch_2, answer_2}
use Rattle.lookup.specs.Method3.{comparison_table, scratch_3, place_3, compared, registers_3, answer_3}
use Rattle.lookup.specs.Method5.{copied, scratch_5, answer_5}
use Rattle.lookup.specs.Methods.{among, found, known, method_of}
use Rattle.lookup.specs.Call.{scratch_after, answer, log_of, log_length, scratch_length}
use Rattle.lookup.specs.Layout.{pass_lines, passes_lines, lines}
use Rattle.lookup.specs.Refusals.{method_checks, untaken, mask_checks, dirty, scratch_checks, log_checks, box_checks, case_checks, case_refusal}
use Rattle.lookup.specs.Refusals.{logged_refusal}
use Rattle.secrecy.specs.Count.{single, chosen_case, mask_widths, value_at, shows, count}
use Rattle.secrecy.specs.BenchSheet.{Line, sheet, SheetRight}
use Rattle.secrecy.specs.Promises.{ChoicesAccepted}
use Rattle.secrecy.proofs.Lent.{choices_accepted}

-- every input with every choice of masks is accepted, so the numbers add up to 0: by law, where each would be computed by itself
all_masks_accepted : (table scratch lent : List ℕ) (method n m : ℕ) → table_refusal n m table ≡ 0 → known method ≡ true
    → scratch_length method n ≤ length scratch → dirty (scratch_length method n) scratch ≡ false → log_length method n ≤ length lent
    → over (n ∷ mask_widths method n m) (λ c. logged_refusal (chosen_case single method n m (c 0) (λ i. c (suc i))) table scratch lent) ≡ 0
unfolding ChoicesAccepted width
all_masks_accepted table scratch lent method n m taken is_Known room clean long =
    over_ext (n ∷ mask_widths method n m)
    (λ c k.
    choices_accepted table scratch lent method n m (c 0) (λ i. c (suc i)) taken is_Known (k.each 0) (record { each = λ i. k.each (suc i) })
    room clean long)
    ∙ over_none (n ∷ mask_widths method n m)

-- lines hold where those in front and those behind do
by_parts : (k : ℕ) (ls : List Line) → map (λ l. l.comes_to) (take k ls) ≡ map (λ l. l.given) (take k ls)
    → map (λ l. l.comes_to) (drop k ls) ≡ map (λ l. l.given) (drop k ls) → map (λ l. l.comes_to) ls ≡ map (λ l. l.given) ls
by_parts zero ls p q = q
by_parts (suc k) [] p q = refl
by_parts (suc k) (l ∷ ls) p q =
    let here : l.comes_to ≡ l.given = cc in
    let later : map (λ l. l.comes_to) (take k ls) ≡ map (λ l. l.given) (take k ls) = cc in
    ap₂ ◌∷◌ here (by_parts k ls later q)

-- the lines before P6's accepted table, and those behind it
in_front : map (λ l. l.comes_to) (take 18 sheet) ≡ map (λ l. l.given) (take 18 sheet)
unfolding sheet layer_refusal layer reply odd_common mapped ones first_of outside any_from at count_of occurs each_value equally_often
    closed fit table_checks Q masked r_prime scratch_2 answer_2 comparison_table scratch_3 place_3 compared registers_3 answer_3 tabulate
    copied scratch_5 answer_5 scratch_after answer pass_lines passes_lines lines entry kind_of value_of log_of among found known method_of
    log_length scratch_length method_checks untaken mask_checks dirty scratch_checks log_checks box_checks case_checks case_refusal
    logged_refusal ◌⊕◌
in_front = refl

behind : map (λ l. l.comes_to) (drop 1 (drop 18 sheet)) ≡ map (λ l. l.given) (drop 1 (drop 18 sheet))
unfolding sheet ◌⊕◌ sum over first_of outside any_from width_refusal reply secret_reply join odd_common mapped layer_refusal layer ones at
    count_of occurs each_value equally_often closed fit table_checks Q masked r_prime scratch_2 answer_2 comparison_table scratch_3
    place_3 compared registers_3 answer_3 tabulate copied scratch_5 answer_5 scratch_after answer pass_lines passes_lines lines entry
    value_of among found known method_of log_of log_length scratch_length method_checks untaken mask_checks dirty scratch_checks
    log_checks box_checks case_checks case_refusal logged_refusal chosen_case mask_widths value_at shows count
behind = refl

-- P6's accepted table
taken : table_refusal 2 1 (0 ∷ 1 ∷ 1 ∷ 0 ∷ []) ≡ 0
unfolding table_refusal table_checks first_of outside any_from count_of occurs each_value equally_often closed fit ◌⊕◌
taken = refl

accepted_table : map (λ l. l.comes_to) (take 1 (drop 18 sheet)) ≡ map (λ l. l.given) (take 1 (drop 18 sheet))
unfolding sheet scratch_length log_length known among method_of found dirty any_from
accepted_table =
    let none = all_masks_accepted (0 ∷ 1 ∷ 1 ∷ 0 ∷ []) in
    let two = none (replicate 4 0) (replicate 34 0) 2 2 1 taken refl (lit≤ tt) refl (lit≤ tt) in
    let three = none (replicate 4 0) (replicate 46 0) 3 2 1 taken refl (lit≤ tt) refl (lit≤ tt) in
    let five = none (replicate 8 0) (replicate 39 0) 5 2 1 taken refl (lit≤ tt) refl (lit≤ tt) in
    rw (two, three, five)

pub sheet_right : SheetRight
unfolding SheetRight
sheet_right = by_parts 18 sheet in_front (by_parts 1 (drop 18 sheet) accepted_table behind)
