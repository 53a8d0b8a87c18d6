-- The logged call accepts every choice that is counted, on clean scratch, and what it leaves in the lent log is the log that the third demand
-- counts. What it refuses, it refuses for every choice.
use mathlib.Core.Path.{◌≡◌, refl, sym, ap, ◌∙◌}
use mathlib.Core.Bool.{true}
use mathlib.Core.List.{List, ◌++◌}
use Prim.Native.Nat.{ℕ, zero, suc, ◌^◌, ◌<◌}
use Rattle.bits.specs.Xor.{◌⊕◌}
use Rattle.bits.proofs.Xor.{below, xors}
use Rattle.refusals.specs.Checks.{first_of}
use Rattle.counting.specs.Choice.{◌▸◌, over, Within}
use Rattle.counting.proofs.Over.{over_ext}
use Rattle.table.specs.Refusals.{table_refusal}
use Rattle.table.proofs.Refusals.{table_accepted}
use Rattle.lookup.specs.declared.Case.{Case}
use Rattle.lookup.specs.Case.{Q}
use Rattle.lookup.specs.Entry.{value_of}
use Rattle.lookup.specs.Methods.{known}
use Rattle.lookup.specs.Call.{log_of, log_length}
use Rattle.lookup.specs.Refusals.{scratch_checks, log_checks, logged_refusal}
use Rattle.lookup.proofs.Methods.{of_each}
use Rattle.lookup.proofs.Accepted.{Taken, accepted, not_refused}
use Rattle.lookup.proofs.Refused.{log_not_refused, logged_case, plain_by_case, logged_by_plain, logged_by_rest}
use Rattle.refusals.specs.Left.{left}
use Rattle.calls.specs.Reply.{logged_log}
use Rattle.calls.proofs.Promises.{left_at}
use Rattle.secrecy.specs.Count.{single, chosen_case, mask_widths, value_at, shows, count, call_count}
use Rattle.secrecy.specs.Promises.{TellsNothing, ChoicesAccepted, AcceptedChosen, LentLogCounted, CallTellsNothing}
use Rattle.secrecy.proofs.Hiding.{hiding}
use Rattle.secrecy.proofs.Promises.{tells_nothing}

pub lent_log_counted : LentLogCounted
unfolding LentLogCounted chosen_case
lent_log_counted table scratch lent method n m x choice i e h = left_at table scratch lent (chosen_case single method n m x choice) i e h

-- a choice within its widths makes a case that is accepted
pub choice_taken : (table : List ℕ) (method n m x : ℕ) (choice : ℕ → ℕ) → table_refusal n m table ≡ 0 → known method ≡ true → x < 2 ^ n
    → Within (mask_widths method n m) choice → Taken (chosen_case single method n m x choice) table
unfolding chosen_case mask_widths Q
choice_taken table method n m x choice e k h inside =
    let drawn = (of_each method hiding k).drawn n m choice inside in (
      k,
      record {
        table = table_accepted n m table e;
        x0 = below n (below n h drawn.r1) drawn.r2;
        r1 = drawn.r1;
        r2 = drawn.r2;
        r3 = drawn.r3;
        r3_taken = drawn.r3_taken;
        s1 = drawn.s1;
        s2 = drawn.s2;
        b = drawn.b;
      },
    )

-- the masks of a case, as a choice
abbrev pub masks_of : Case → ℕ → ℕ
masks_of c = c.r1 ▸ c.r2 ▸ c.r3 ▸ c.s1 ▸ c.s2 ▸ c.b ▸ (λ i. 0)

-- an accepted case is one of a choice within its widths
pub case_chosen : (table : List ℕ) (c : Case) → Taken c table
    → Within (mask_widths c.method c.n c.m) (masks_of c)
    × (chosen_case single c.method c.n c.m (c.x0 ⊕ c.r1 ⊕ c.r2) (masks_of c) ≡ c)
unfolding mask_widths chosen_case Q
case_chosen table c taken =
    let k = taken.1 in
    let x0 : c.x0 ⊕ c.r1 ⊕ c.r2 ⊕ c.r1 ⊕ c.r2 ≡ c.x0 = simp xors in (
      (of_each c.method hiding taken.0).whole c.n c.m (masks_of c)
          (record { r1 = k.r1; r2 = k.r2; r3 = k.r3; r3_taken = k.r3_taken; s1 = k.s1; s2 = k.s2; b = k.b }),
      rw x0,
    )

pub accepted_chosen : AcceptedChosen
unfolding AcceptedChosen
accepted_chosen table scratch lent c e =
    let whole = logged_case c table scratch lent e in
    let chosen = case_chosen table c (accepted c table whole) in
    (masks_of c, chosen.0, chosen.1)

pub choices_accepted : ChoicesAccepted
unfolding ChoicesAccepted chosen_case
choices_accepted table scratch lent method n m x choice e k h inside room clean long =
    let c = chosen_case single method n m x choice in
    logged_by_plain c table scratch lent (log_not_refused c lent long)
    ∙ plain_by_case c table scratch (record { room = room; clean = clean })
    ∙ not_refused c table (choice_taken table method n m x choice e k h inside)

pub call_tells_nothing : CallTellsNothing
unfolding CallTellsNothing LentLogCounted TellsNothing call_count count shows value_at chosen_case scratch_checks log_checks logged_log
    left
call_tells_nothing table scratch lent method n m x y i j u v e k hx hy hi hj = by_rest rest refl
  where
    -- what scratch and log are refused by, which no choice changes
    rest : ℕ
    rest =
        let c = chosen_case single method n m x (λ i. 0) in
        first_of (scratch_checks c scratch ++ log_checks c lent)

    number : (z : ℕ) → z < 2 ^ n → (c : ℕ → ℕ) → Within (mask_widths method n m) c
        → logged_refusal (chosen_case single method n m z c) table scratch lent ≡ rest
    number z hz c inside =
        let one = chosen_case single method n m z c in
        logged_by_rest one table scratch lent (not_refused one table (choice_taken table method n m z c e k hz inside))

    -- accepted: the log is the counted one
    at_position : rest ≡ 0 → (z : ℕ) → z < 2 ^ n → (c : ℕ → ℕ) → Within (mask_widths method n m) c → (p : ℕ) → p < log_length method n
        → value_at (logged_log (chosen_case single method n m z c) table scratch lent) p
        ≡ value_at (log_of (chosen_case single method n m z c) table) p
    at_position none z hz c inside p h = ap value_of (lent_log_counted table scratch lent method n m z c p (number z hz c inside ∙ none) h)

    counted : rest ≡ 0 → (z : ℕ) → z < 2 ^ n → call_count table scratch lent method n m z i j u v ≡ count table method n m z i j u v
    counted none z hz =
        over_ext (mask_widths method n m) (λ c inside. rw (at_position none z hz c inside i hi, at_position none z hz c inside j hj))

    -- refused: the log is the lent one
    kept : (r : ℕ) → rest ≡ suc r → (z : ℕ) → z < 2 ^ n
        → call_count table scratch lent method n m z i j u v ≡ over (mask_widths method n m) (λ c. shows i j u v lent)
    kept r some z hz = over_ext (mask_widths method n m) (λ c inside. rw (number z hz c inside ∙ some))

    by_rest : (r : ℕ) → rest ≡ r → call_count table scratch lent method n m x i j u v ≡ call_count table scratch lent method n m y i j u v
    by_rest zero none =
        counted none x hx ∙ tells_nothing table method n m x y i j u v (table_accepted n m table e).fitness k hx hy ∙ sym (counted none y hy)
    by_rest (suc r) some = kept r some x hx ∙ sym (kept r some y hy)
