-- What is promised of an accepted lookup, and of scratch that is taken. Each is a type; its proof stands in proofs/.
use Rattle.std.specs.Prelude.{◌≡◌, ◌⊎◌, true, false, ◌||◌, not, List, map, ℕ, max, ◌+◌, ◌*◌, ◌^◌, ◌≤◌, ◌<◌, ltb, eqb, length, take, drop, replicate}
use Rattle.bits.specs.Xor.{◌⊕◌}
use Rattle.refusals.specs.Tests.{outside, any_from}
use Rattle.table.specs.Balanced.{at}
use Rattle.table.specs.Fit.{each_value}
use Rattle.lookup.specs.declared.Case.{Case}
use Rattle.lookup.specs.Case.{Q}
use Rattle.lookup.specs.Entry.{entry, kind_of, value_of}
use Rattle.lookup.specs.NarrowEntry.{narrow_log, SaysTheSame}
use Rattle.lookup.specs.Layout.{lines}
use Rattle.lookup.specs.Methods.{known, method_of}
use Rattle.lookup.specs.Call.{answer, scratch_after, log_of, log_length, scratch_length}
use Rattle.lookup.specs.Refusals.{untaken, case_refusal, plain_refusal, logged_refusal}

-- the methods' numbers
unfoldable pub MethodsKnown : Type 0
MethodsKnown = (method : ℕ) → known method ≡ (eqb method 2 || (eqb method 3 || eqb method 5))

-- which r3 and which b are refused with 12, once r3 has passed 10
unfoldable pub UntakenRight : Type 0
UntakenRight =
    (c : Case) → c.r3 < Q c →
    (c.method ≡ 2 → untaken c ≡ ltb 0 c.b) × (c.method ≡ 3 → untaken c ≡ ltb 1 c.b)
    × (c.method ≡ 5 → untaken c ≡ (ltb 0 c.r3 || ltb 0 c.b))

-- the answer joined with both output masks is the table's entry for the input
unfoldable pub AnswerRight : Type 0
AnswerRight =
    (table : List ℕ) (c : Case) → case_refusal c table ≡ 0 → answer c table ⊕ c.s1 ⊕ c.s2 ≡ at table (c.x0 ⊕ c.r1 ⊕ c.r2)

-- the answer has the output's width
unfoldable pub AnswerSmall : Type 0
AnswerSmall = (table : List ℕ) (c : Case) → case_refusal c table ≡ 0 → answer c table < 2 ^ c.m

-- two accepted lookups of one secret under the same output masks have the same answer, whatever their methods and their other masks
unfoldable pub AnswersAgree : Type 0
AnswersAgree =
    (table : List ℕ) (c d : Case) → case_refusal c table ≡ 0 → case_refusal d table ≡ 0
    → c.x0 ⊕ c.r1 ⊕ c.r2 ≡ d.x0 ⊕ d.r1 ⊕ d.r2 → c.s1 ≡ d.s1 → c.s2 ≡ d.s2 →
    answer c table ≡ answer d table

-- under methods 2 and 5 the answer stands in the scratch that is left, whatever stood there before (in an accepted call zeros): at byte r3,
-- and at byte x0 of the second half
unfoldable pub AnswerKept : Type 0
AnswerKept =
    (table scratch : List ℕ) (c : Case) → case_refusal c table ≡ 0 → scratch_length c.method c.n ≤ length scratch →
    (c.method ≡ 2 → at (scratch_after c table scratch) c.r3 ≡ answer c table)
    × (c.method ≡ 5 → at (scratch_after c table scratch) (Q c + c.x0) ≡ answer c table)

-- scratch bytes behind those that the method needs, which are Q under methods 2 and 3 and 2Q under method 5, are unchanged
unfoldable pub RestKept : Type 0
RestKept =
    (table scratch : List ℕ) (c : Case) → case_refusal c table ≡ 0 →
    drop (scratch_length c.method c.n) (scratch_after c table scratch) ≡ drop (scratch_length c.method c.n) scratch

-- an accepted call, plain or logged, began with zeros in the scratch bytes that the method needs
unfoldable pub BeganClean : Type 0
BeganClean =
    (table scratch lent : List ℕ) (c : Case) → (plain_refusal c table scratch ≡ 0) ⊎ (logged_refusal c table scratch lent ≡ 0) →
    take (scratch_length c.method c.n) scratch ≡ replicate (scratch_length c.method c.n) 0

-- scratch that begins with as many zeros is never refused, whatever stands behind them, nor is a long enough log: what is refused is the case
unfoldable pub ZerosTaken : Type 0
ZerosTaken =
    (table scratch lent : List ℕ) (c : Case) → scratch_length c.method c.n ≤ length scratch →
    take (scratch_length c.method c.n) scratch ≡ replicate (scratch_length c.method c.n) 0 →
    (plain_refusal c table scratch ≡ case_refusal c table)
    × (log_length c.method c.n ≤ length lent → logged_refusal c table scratch lent ≡ case_refusal c table)

-- so with what `clear` leaves of a buffer that is long enough
unfoldable pub ClearedTaken : Type 0
ClearedTaken =
    (table : List ℕ) (size : ℕ) (c : Case) → scratch_length c.method c.n ≤ size →
    plain_refusal c table (replicate size 0) ≡ case_refusal c table

-- the lengths of log and scratch in numbers
unfoldable pub LengthsRight : Type 0
LengthsRight =
    (n : ℕ) → (log_length 2 n ≡ 10 + 6 * 2 ^ n) × (log_length 3 n ≡ 10 + 9 * 2 ^ n) × (log_length 5 n ≡ 7 + 8 * 2 ^ n)
    × (scratch_length 2 n ≡ 2 ^ n) × (scratch_length 3 n ≡ 2 ^ n) × (scratch_length 5 n ≡ 2 * 2 ^ n)

-- the log has its length, and each entry fits 32 bits
unfoldable pub LogLong : Type 0
LogLong =
    (table : List ℕ) (c : Case) → case_refusal c table ≡ 0 →
    (length (log_of c table) ≡ log_length c.method c.n) × (any_from 4294967296 (log_of c table) ≡ false)

-- each value has the larger of the two widths
unfoldable pub ValuesSmall : Type 0
ValuesSmall =
    (table : List ℕ) (c : Case) → case_refusal c table ≡ 0 → (i : ℕ) → value_of (at (log_of c table) i) < 2 ^ max c.n c.m

-- each entry's kind and value are those of its row
unfoldable pub LogReadBack : Type 0
LogReadBack =
    (table : List ℕ) (c : Case) → case_refusal c table ≡ 0 →
    (map kind_of (log_of c table) ≡ lines (λ a r. r.kind) (Q c) (method_of c.method).layout)
    × (map value_of (log_of c table) ≡ lines (λ a r. r.value c table a) (Q c) (method_of c.method).layout)

-- each kind is one of 1 to 18
unfoldable pub KindsKnown : Type 0
KindsKnown =
    (table : List ℕ) (c : Case) → case_refusal c table ≡ 0 → each_value (map kind_of (log_of c table)) (λ k. not (outside 1 18 k)) ≡ true

-- a kind and a value of sixteen bits each make an entry of 32, which gives both back
unfoldable pub EntryReadBack : Type 0
EntryReadBack =
    (kind value : ℕ) → kind < 65536 → value < 65536 →
    (entry kind value < 4294967296) × (kind_of (entry kind value) ≡ kind) × (value_of (entry kind value) ≡ value)

-- the log tells what it told when its entries were narrow: there are as many, each of which fitted 16 bits, and at each position the entry has
-- the narrow one's kind and value
unfoldable pub WideAsNarrow : Type 0
WideAsNarrow =
    (table : List ℕ) (c : Case) → case_refusal c table ≡ 0 →
    (length (log_of c table) ≡ length (narrow_log c table)) × (any_from 65536 (narrow_log c table) ≡ false)
    × ((i : ℕ) → SaysTheSame (at (log_of c table) i) (at (narrow_log c table) i))
