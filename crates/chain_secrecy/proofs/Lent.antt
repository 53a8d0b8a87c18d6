-- The chained call accepts every choice that is counted, on clean scratch, and what it leaves in the lent logs is what is counted. What it
-- refuses, it refuses for every choice.
use mathlib.Core.Path.{◌≡◌, refl, sym, ap, ◌∙◌}
use mathlib.Core.Bool.{true}
use mathlib.Core.List.{List, ◌++◌}
use Prim.Native.Nat.{ℕ, zero, suc, ◌^◌, ◌≤◌, ◌<◌}
use lib.ListN.{length}
use Rattle.refusals.specs.Checks.{first_of}
use Rattle.refusals.specs.Left.{left}
use Rattle.refusals.proofs.Checks.{numbered, none_behind, none_before}
use Rattle.counting.specs.Choice.{Within}
use Rattle.counting.proofs.Over.{over_ext}
use Rattle.table.specs.Balanced.{at}
use Rattle.table.specs.Refusals.{table_refusal}
use Rattle.table.proofs.Refusals.{table_accepted}
use Rattle.lookup.specs.declared.Case.{Case}
use Rattle.lookup.specs.Entry.{value_of}
use Rattle.lookup.specs.Methods.{method_of}
use Rattle.lookup.specs.Call.{log_of, log_length}
use Rattle.lookup.specs.Refusals.{scratch_checks, log_checks, case_refusal, logged_refusal}
use Rattle.lookup.specs.Promises.{LogLong}
use Rattle.lookup.proofs.Methods.{of_each}
use Rattle.lookup.proofs.Accepted.{not_refused}
use Rattle.lookup.proofs.Refused.{Clean, scratch_not_refused, log_not_refused, logged_case}
use Rattle.lookup.proofs.Promises.{log_long}
use Rattle.secrecy.specs.Count.{single, chosen_case, value_at}
use Rattle.secrecy.proofs.Hiding.{Hiding, hiding}
use Rattle.buffers.proofs.Written.{in_front_at}
use Rattle.secrecy.proofs.Lent.{choice_taken}
use Rattle.chain.specs.Lent.{Lent}
use Rattle.chain.specs.Chain.{second_case, following, chain_refusal, chain_first_log, chain_second_log}
use Rattle.chain.proofs.Accepted.{chain_passed, lent_checks, chain_by_lent}
use Rattle.chain_secrecy.specs.Count.{Boxes, Which, first, second, entries, chain_widths, first_case, second_own}
use Rattle.chain_secrecy.specs.Count.{defined_logs, left_logs, count_by, chain_count, chain_call_count}
use Rattle.chain_secrecy.specs.Promises.{Paired, ChainTellsNothing, ChainedCallTellsNothing, ChainChoicesAccepted, LeftLogsCounted}
use Rattle.chain_secrecy.specs.Promises.{ChainedCallCounted, RefusalsAlike}
use Rattle.chain_secrecy.proofs.Chosen.{first_masks, second_masks, first_within, second_within, following_chosen}
use Rattle.chain_secrecy.proofs.Promises.{chain_tells_nothing}

module _ (l : Lent) (k : Boxes) (SAccepted : table_refusal k.input k.between l.first_table ≡ 0)
    (TAccepted : table_refusal k.between k.output l.second_table ≡ 0) (paired : Paired k) where
  abbrev one : Hiding (method_of k.first_method)
  one = of_each k.first_method hiding paired.0

  abbrev two : Hiding (method_of k.second_method)
  two = of_each k.second_method hiding paired.1

  -- what the scratches and logs are refused by, of any choice
  unfoldable rest : ℕ
  rest =
      let chosen = first_case k 0 (λ i. 0) in
      first_of
      (lent_checks chosen l.first_scratch l.first_log
      ++ lent_checks (second_case chosen (second_own k (λ i. 0)) 0) l.second_scratch l.second_log)

  module _ (x : ℕ) (hx : x < 2 ^ k.input) (c : ℕ → ℕ) (inside : Within (chain_widths k) c) where
    abbrev later : Case
    later = following (first_case k x c) (second_own k c) l.first_table

    -- both cases of a choice are accepted
    first_taken : case_refusal (first_case k x c) l.first_table ≡ 0
    unfolding first_case chosen_case
    first_taken =
        not_refused (first_case k x c) l.first_table
        (choice_taken l.first_table k.first_method k.input k.between x (first_masks c) SAccepted paired.0 hx
        (first_within k one two c inside))

    second_taken : case_refusal later l.second_table ≡ 0
    unfolding chosen_case
    second_taken =
        let small = (table_accepted k.input k.between l.first_table SAccepted).small x in
        let chosen = chosen_case single k.second_method k.between k.output (at l.first_table x) (second_masks c) in
        ap (λ case. case_refusal case l.second_table) (following_chosen k one two c inside l.first_table x hx paired.0)
        ∙ not_refused chosen l.second_table
        (choice_taken l.second_table k.second_method k.between k.output (at l.first_table x) (second_masks c) TAccepted
        paired.1 small (second_within k one two c inside))

    -- so scratches and logs decide, which no choice changes
    by_lent : chain_refusal (first_case k x c) (second_own k c) l ≡ rest
    unfolding rest first_case second_own chosen_case following second_case scratch_checks log_checks
    by_lent = chain_by_lent (first_case k x c) (second_own k c) _ _ _ _ _ _ first_taken refl second_taken

-- the length of an accepted call's log
log_whole : (c : Case) (table scratch log : List ℕ) → logged_refusal c table scratch log ≡ 0
    → length (log_of c table) ≡ log_length c.method c.n
unfolding LogLong
log_whole c table scratch log e = (log_long table c (logged_case c table scratch log e)).0

pub left_logs_counted : LeftLogsCounted
unfolding LeftLogsCounted left_logs defined_logs entries chain_first_log chain_second_log left following second_case first_case second_own
    chosen_case at
left_logs_counted l k x c first i h e =
    let whole = chain_passed (first_case k x c) (second_own k c) _ _ _ _ _ _ e in
    let log = log_of (first_case k x c) l.first_table in
    rw e (in_front_at log l.first_log i (rw (log_whole (first_case k x c) l.first_table _ _ whole.first_accepted) h))
left_logs_counted l k x c second i h e =
    let whole = chain_passed (first_case k x c) (second_own k c) _ _ _ _ _ _ e in
    let later = following (first_case k x c) (second_own k c) l.first_table in
    rw e
    (in_front_at (log_of later l.second_table) l.second_log i
    (rw (log_whole later l.second_table _ _ whole.second_accepted) h))

-- scratch and log that fit are not refused
lent_taken : (c : Case) (scratch log : List ℕ) → Clean c scratch → log_length c.method c.n ≤ length log
    → first_of (lent_checks c scratch log) ≡ 0
lent_taken c scratch log clean long =
    none_behind (scratch_checks c scratch) (log_checks c log) (log_not_refused c log long) ∙ scratch_not_refused c scratch clean

lent_numbered : (c : Case) (scratch log : List ℕ) → numbered (lent_checks c scratch log) ≡ true
unfolding numbered scratch_checks log_checks
lent_numbered c scratch log = refl

pub chain_choices_accepted : ChainChoicesAccepted
unfolding ChainChoicesAccepted rest first_case second_own chosen_case second_case entries
chain_choices_accepted l k x c SAccepted TAccepted paired hx inside fit =
    let one = first_case k 0 (λ i. 0) in
    let two = second_case one (second_own k (λ i. 0)) 0 in
    by_lent l k SAccepted TAccepted paired x hx c inside
    ∙ none_before (lent_checks one l.first_scratch l.first_log) (lent_checks two l.second_scratch l.second_log)
    (lent_numbered one l.first_scratch l.first_log)
    (lent_taken one l.first_scratch l.first_log (record { room = fit.0; clean = fit.1 }) fit.2)
    ∙ lent_taken two l.second_scratch l.second_log (record { room = fit.3; clean = fit.4 }) fit.5

pub refusals_alike : RefusalsAlike
unfolding RefusalsAlike
refusals_alike l k x y c d SAccepted TAccepted paired hx hy inside others =
    by_lent l k SAccepted TAccepted paired x hx c inside ∙ sym (by_lent l k SAccepted TAccepted paired y hy d others)

-- where nothing is refused, the logs are the counted ones
counted : (l : Lent) (k : Boxes) (x : ℕ) (w w' : Which) (i j u v : ℕ)
    → ((c : ℕ → ℕ) → Within (chain_widths k) c → chain_refusal (first_case k x c) (second_own k c) l ≡ 0) → i < entries k w
    → j < entries k w' → chain_call_count l k x w w' i j u v ≡ chain_count l.first_table l.second_table k x w w' i j u v
unfolding LeftLogsCounted chain_call_count chain_count count_by value_at
counted l k x w w' i j u v none hi hj =
    let same : (c : ℕ → ℕ) → Within (chain_widths k) c → (w : Which) (p : ℕ) → p < entries k w
    → value_at (left_logs l k x c w) p ≡ value_at (defined_logs l.first_table l.second_table k x c w) p
    = λ c inside w p h. ap value_of (left_logs_counted l k x c w p h (none c inside)) in
    over_ext (chain_widths k) (λ c inside. rw (same c inside w i hi, same c inside w' j hj))

pub chained_call_counted : ChainedCallCounted
unfolding ChainedCallCounted ChainChoicesAccepted
chained_call_counted l k x w w' i j u v SAccepted TAccepted paired hx fit hi hj =
    counted l k x w w' i j u v (λ c inside. chain_choices_accepted l k x c SAccepted TAccepted paired hx inside fit) hi hj

pub chained_call_tells_nothing : ChainedCallTellsNothing
unfolding ChainedCallTellsNothing ChainTellsNothing chain_call_count count_by left_logs chain_first_log chain_second_log left
chained_call_tells_nothing l k x y w w' i j u v SAccepted TAccepted paired hx hy hi hj =
    by_rest (rest l k SAccepted TAccepted paired) refl
  where
    number : (z : ℕ) → z < 2 ^ k.input → (c : ℕ → ℕ) → Within (chain_widths k) c
        → chain_refusal (first_case k z c) (second_own k c) l ≡ rest l k SAccepted TAccepted paired
    number z hz c inside = by_lent l k SAccepted TAccepted paired z hz c inside

    -- refused: the logs are the lent ones
    lent_log : Which → List ℕ
    lent_log first = l.first_log
    lent_log second = l.second_log

    kept : (r : ℕ) → rest l k SAccepted TAccepted paired ≡ suc r → (z : ℕ) → z < 2 ^ k.input → (c : ℕ → ℕ) → Within (chain_widths k) c
        → (w : Which) → left_logs l k z c w ≡ lent_log w
    kept r some z hz c inside first = rw (number z hz c inside ∙ some)
    kept r some z hz c inside second = rw (number z hz c inside ∙ some)

    by_rest : (r : ℕ) → rest l k SAccepted TAccepted paired ≡ r
        → chain_call_count l k x w w' i j u v ≡ chain_call_count l k y w w' i j u v
    by_rest zero none =
        counted l k x w w' i j u v (λ c inside. number x hx c inside ∙ none) hi hj
        ∙ chain_tells_nothing l.first_table l.second_table k x y w w' i j u v
        (table_accepted k.input k.between l.first_table SAccepted).fitness
        (table_accepted k.between k.output l.second_table TAccepted).fitness paired hx hy
        ∙ sym (counted l k y w w' i j u v (λ c inside. number y hy c inside ∙ none) hi hj)
    by_rest (suc r) some =
        over_ext (chain_widths k)
        (λ c inside.
        rw (kept r some x hx c inside w, kept r some x hx c inside w', kept r some y hy c inside w, kept r some y hy c inside w'))
