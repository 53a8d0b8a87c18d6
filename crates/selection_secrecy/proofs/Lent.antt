-- The call accepts every choice that is counted, and what it leaves in the lent log is the log that is counted. A log that is too short is
-- refused for every choice.
use mathlib.Core.Path.{◌≡◌, refl, sym, ap, ◌∙◌}
use mathlib.Core.Bool.{Bool, true, false}
use mathlib.Core.List.{List}
use Prim.Native.Nat.{ℕ, ◌*◌, ◌^◌, ◌≤◌, ◌<◌}
use native.Mathlib.Omega.{arith}
use borrow.Author.Tests.{ltb-true, ltb-false}
use lib.Dec.{ltb}
use lib.ListN.{length}
use Rattle.bits.proofs.Xor.{below}
use Rattle.refusals.proofs.Left.{left_refused, left_accepted}
use Rattle.counting.specs.Choice.{width, Within}
use Rattle.counting.proofs.Over.{over_ext}
use Rattle.table.specs.Balanced.{at}
use Rattle.buffers.proofs.Written.{in_front_at}
use Rattle.secrecy.specs.Count.{value_at, shows}
use Rattle.selection.specs.Log.{log_of}
use Rattle.selection.specs.Select.{plain_select_refusal, select_log}
use Rattle.selection.proofs.Accepted.{bounded_by, not_refused}
use Rattle.selection.proofs.Checking.{at_14, at_none}
use Rattle.selection.proofs.Logging.{log_long}
use Rattle.selection_secrecy.specs.Count.{selection_widths, chosen_selection, selection_count, select_count}
use Rattle.selection_secrecy.specs.Promises.{SelectionTellsNothing, SelectTellsNothing, SelectCounted, LentLogCounted, ChoicesAccepted}
use Rattle.selection_secrecy.proofs.Promises.{selection_tells_nothing}

pub lent_log_counted : LentLogCounted
unfolding LentLogCounted select_log at
lent_log_counted lent s i e h =
    ap (λ log. at log i) (sym (left_accepted 0 _ _ lent (sym e) refl)) ∙ in_front_at (log_of s) lent i (rw (log_long s) h)

-- a choice within its widths is accepted by the call without a log
choice_taken : (l z c : ℕ) (choice : ℕ → ℕ) → 1 ≤ l → l ≤ 8 → z < 2 ^ (2 * l) → c < 2 → Within (selection_widths l) choice
    → plain_select_refusal (chosen_selection l z c choice) ≡ 0
unfolding chosen_selection selection_widths width
choice_taken l z c r least most hz hc inside =
    not_refused _ least
    (bounded_by _ most (below _ (below _ hz (inside.each 0)) (inside.each 1)) (inside.each 0) (inside.each 1)
    (below 1 (below 1 hc (inside.each 2)) (inside.each 3)) (inside.each 2) (inside.each 3) (inside.each 6) (inside.each 4) (inside.each 5))

pub choices_accepted : ChoicesAccepted
unfolding ChoicesAccepted
choices_accepted lent l z c choice least most hz hc inside room =
    sym (at_none _ lent (sym (choice_taken l z c choice least most hz hc inside)) room)

pub select_counted : SelectCounted
unfolding SelectCounted select_count selection_count shows value_at LentLogCounted ChoicesAccepted
select_counted lent l z c i j u v least most hz hc hi hj room =
    over_ext (selection_widths l)
    (λ r inside.
    let taken = choices_accepted lent l z c r least most hz hc inside room in
    rw (lent_log_counted lent (chosen_selection l z c r) i taken hi, lent_log_counted lent (chosen_selection l z c r) j taken hj))

-- where it has none, the log is the lent one for every choice
kept : (lent : List ℕ) (l z c : ℕ) (choice : ℕ → ℕ) → 1 ≤ l → l ≤ 8 → z < 2 ^ (2 * l) → c < 2 → Within (selection_widths l) choice
    → length lent < 28 → select_log (chosen_selection l z c choice) lent ≡ lent
unfolding select_log
kept lent l z c choice least most hz hc inside short =
    let refused = at_14 _ lent (sym (choice_taken l z c choice least most hz hc inside)) short in
    sym (left_refused 14 _ _ lent refused (λ e. absurd (omega (arith, e))))

short_counts : (lent : List ℕ) (l z z' c c' i j u v : ℕ) → 1 ≤ l → l ≤ 8 → z < 2 ^ (2 * l) → z' < 2 ^ (2 * l) → c < 2 → c' < 2
    → length lent < 28 → select_count lent l z c i j u v ≡ select_count lent l z' c' i j u v
unfolding select_count
short_counts lent l z z' c c' i j u v least most hz hz' hc hc' short =
    over_ext (selection_widths l)
    (λ r inside. rw (kept lent l z c r least most hz hc inside short, kept lent l z' c' r least most hz' hc' inside short))

pub select_tells_nothing : SelectTellsNothing
unfolding SelectTellsNothing SelectionTellsNothing SelectCounted
select_tells_nothing lent l z z' c c' i j u v least most hz hz' hc hc' hi hj = by_room (ltb (length lent) 28) refl
  where
    by_room : (short : Bool) → ltb (length lent) 28 ≡ short → select_count lent l z c i j u v ≡ select_count lent l z' c' i j u v
    by_room true e = short_counts lent l z z' c c' i j u v least most hz hz' hc hc' (ltb-true _ _ e)
    by_room false e =
        let room = ltb-false _ _ e in
        select_counted lent l z c i j u v least most hz hc hi hj room
        ∙ selection_tells_nothing l z z' c c' i j u v hz hz' hc hc'
        ∙ sym (select_counted lent l z' c' i j u v least most hz' hc' hi hj room)
