-- What is promised of a chained call. Each is a type; its proof stands in proofs/Promises.antt.
use Rattle.std.specs.Prelude.{◌≡◌, ℕ, ◌^◌, ◌≤◌, ◌<◌}
use Rattle.bits.specs.Xor.{◌⊕◌}
use Rattle.refusals.specs.Checks.{first_of}
use Rattle.table.specs.Balanced.{at}
use Rattle.lookup.specs.declared.Case.{Case}
use Rattle.lookup.specs.Called.{Called}
use Rattle.lookup.specs.NarrowEntry.{narrow_log, SaysTheSame}
use Rattle.lookup.specs.Call.{log_length}
use Rattle.lookup.specs.Refusals.{box_checks, logged_refusal}
use Rattle.calls.specs.Reply.{logged_reply, logged_scratch, logged_log}
use Rattle.chain.specs.declared.Second.{Second}
use Rattle.chain.specs.Lent.{Lent}
use Rattle.chain.specs.Chain.{second_case, chain_refusal, chain_reply, chain_first_scratch, chain_second_scratch}
use Rattle.chain.specs.Chain.{chain_first_log, chain_second_log}

-- the second share joined with the second's output masks is T[S[x]], where x is joined from the first call's shares
unfoldable pub ShareRight : Type 0
ShareRight =
    (first : Case) (second : Second) (l : Lent) → chain_refusal first second l ≡ 0 →
    (chain_reply first second l).share ⊕ second.s1 ⊕ second.s2
    ≡ at l.second_table (at l.first_table (first.x0 ⊕ first.r1 ⊕ first.r2))

-- and it is of the second's output width
unfoldable pub ShareSmall : Type 0
ShareSmall =
    (first : Case) (second : Second) (l : Lent) → chain_refusal first second l ≡ 0 → (chain_reply first second l).share < 2 ^ second.m

-- a refused call hands back its number and zeros, and leaves both scratches and both logs as they were
unfoldable pub RefusedKept : Type 0
RefusedKept =
    (first : Case) (second : Second) (l : Lent) → (chain_refusal first second l ≡ 0 → ⊥) →
    (chain_reply first second l ≡ record { refusal = chain_refusal first second l; share = 0; first_count = 0; second_count = 0 })
    × (chain_first_scratch first second l ≡ l.first_scratch) × (chain_second_scratch first second l ≡ l.second_scratch)
    × (chain_first_log first second l ≡ l.first_log) × (chain_second_log first second l ≡ l.second_log)

-- the two logged calls, one after the other: what the first hands back, and the second's case with that share
abbrev pub first_reply : Case → Lent → Called
first_reply first l = logged_reply first l.first_table l.first_scratch l.first_log

abbrev pub then_case : Case → Second → Lent → Case
then_case first second l = second_case first second (first_reply first l).share

-- a chained call is accepted just where these two are, and the widths between them agree
unfoldable pub AcceptedAsTwo : Type 0
AcceptedAsTwo =
    (first : Case) (second : Second) (l : Lent) →
    (chain_refusal first second l ≡ 0 → (logged_refusal first l.first_table l.first_scratch l.first_log ≡ 0)
    × (first.m ≡ second.n)
    × (logged_refusal (then_case first second l) l.second_table l.second_scratch l.second_log ≡ 0))
    × (logged_refusal first l.first_table l.first_scratch l.first_log ≡ 0 → first.m ≡ second.n
    → logged_refusal (then_case first second l) l.second_table l.second_scratch l.second_log ≡ 0
    → chain_refusal first second l ≡ 0)

-- and then it hands back and leaves what they would: what is promised of them is promised here
unfoldable pub LeftAsTwo : Type 0
LeftAsTwo =
    (first : Case) (second : Second) (l : Lent) → chain_refusal first second l ≡ 0 →
    ((chain_reply first second l).share
    ≡ (logged_reply (then_case first second l) l.second_table l.second_scratch l.second_log).share)
    × ((chain_reply first second l).first_count ≡ (first_reply first l).count)
    × ((chain_reply first second l).second_count
    ≡ (logged_reply (then_case first second l) l.second_table l.second_scratch l.second_log).count)
    × (chain_first_scratch first second l ≡ logged_scratch first l.first_table l.first_scratch l.first_log)
    × (chain_second_scratch first second l
    ≡ logged_scratch (then_case first second l) l.second_table l.second_scratch l.second_log)
    × (chain_first_log first second l ≡ logged_log first l.first_table l.first_scratch l.first_log)
    × (chain_second_log first second l ≡ logged_log (then_case first second l) l.second_table l.second_scratch l.second_log)

-- the second's 10 is its r3: where the first call is accepted, the widths agree and the second's 2 to 7 have passed, 10 is handed back just if
-- r3 is too large
unfoldable pub TenByR3 : Type 0
TenByR3 =
    (first : Case) (second : Second) (l : Lent) → logged_refusal first l.first_table l.first_scratch l.first_log ≡ 0
    → first.m ≡ second.n → first_of (box_checks (then_case first second l) l.second_table) ≡ 0 →
    (2 ^ second.n ≤ second.r3 → chain_refusal first second l ≡ 10) × (chain_refusal first second l ≡ 10 → 2 ^ second.n ≤ second.r3)

-- each entry of both logs has the kind and the value of the entry that a log of 16-bit entries has at its position
unfoldable pub ChainAsNarrow : Type 0
ChainAsNarrow =
    (first : Case) (second : Second) (l : Lent) → chain_refusal first second l ≡ 0 →
    ((i : ℕ) → i < log_length first.method first.n →
    SaysTheSame (at (chain_first_log first second l) i) (at (narrow_log first l.first_table) i))
    × ((i : ℕ) → i < log_length second.method second.n →
    SaysTheSame (at (chain_second_log first second l) i) (at (narrow_log (then_case first second l) l.second_table) i))
