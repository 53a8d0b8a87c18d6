-- What is promised of an accepted lookup holds.
use mathlib.Core.Path.{◌≡◌, refl, sym, ap, subst, ◌∙◌}
use mathlib.Core.Logic.{inl, inr}
use mathlib.Core.Bool.{Bool, false, ◌||◌, or-false}
use mathlib.Core.List.{List, map}
use Prim.Native.Nat.{ℕ, max, ◌+◌, ◌-◌, ◌%◌, ◌^◌, ◌≤◌, ◌<◌}
use native.Mathlib.Omega.{arith}
use borrow.Author.Tests.{le-ltb}
use lib.Dec.{ltb}
use lib.ListN.{length, replicate}
use lib.Pow.{pow_pos}
use Rattle.bits.specs.Xor.{◌⊕◌}
use Rattle.bits.proofs.Xor.{xors, assoc, below}
use Rattle.table.specs.Balanced.{at}
use Rattle.lookup.specs.declared.Case.{Case}
use Rattle.lookup.specs.Case.{Q}
use Rattle.lookup.specs.Entry.{entry, kind_of, value_of}
use Rattle.lookup.specs.NarrowEntry.{narrow_entry, narrow_kind_of, narrow_value_of, narrow_log}
use Rattle.lookup.specs.Layout.{lines}
use Rattle.lookup.specs.Row.{Row, row_entry, masked}
use Rattle.lookup.specs.Method.{Method}
use Rattle.lookup.specs.Methods.{among, found, known, method_of}
use Rattle.lookup.specs.Call.{answer, scratch_after, log_of, log_length, scratch_length}
use Rattle.lookup.specs.Refusals.{untaken}
use Rattle.lookup.specs.Promises.{MethodsKnown, UntakenRight, AnswerRight, AnswerSmall, AnswersAgree, AnswerKept}
use Rattle.lookup.specs.Promises.{RestKept, BeganClean, ZerosTaken, ClearedTaken}
use Rattle.lookup.specs.Promises.{LengthsRight, LogLong, ValuesSmall, LogReadBack, EntryReadBack, WideAsNarrow}
use Rattle.lookup.proofs.Each.{Each, each_map, each_at}
use Rattle.lookup.proofs.Methods.{of_each, method_2_of, method_3_of, method_5_of}
use Rattle.lookup.proofs.Entry.{entry_kind, entry_value, value_zero, value_kept, entry_small, byte_fits, none_large}
use Rattle.lookup.proofs.Entry.{narrow_kind, narrow_value, narrow_small}
use Rattle.lookup.proofs.Accepted.{Taken, accepted}
use Rattle.lookup.proofs.Refused.{Clean, zeros_clean, zeros_before, cleared, log_not_refused, logged_plain, plain_by_case, logged_by_plain}
use Rattle.lookup.proofs.Second.{byte_r3}
use Rattle.lookup.proofs.Fifth.{byte_x0, answer_5_is}
use Rattle.lookup.proofs.Layouts.{lines_long, each_line, at_map, lines_map, lines_agree}
use Rattle.lookup.proofs.Right.{Small, value_byte, Right, right}

-- what is proved of the method that was taken
pub taken_right : (c : Case) (table : List ℕ) → Taken c table → Right (method_of c.method)
taken_right c table taken = of_each c.method right taken.0

-- under each method the answer is the masked entry of turn r1 ⊕ r2
pub answer_is : (c : Case) (table : List ℕ) → Taken c table → answer c table ≡ masked c table (c.r1 ⊕ c.r2)
unfolding answer
answer_is c table taken =
    let k = taken.1 in
    (taken_right c table taken).answers c table k.x0 k.r1 k.r2 k.r3 k.b

pub methods_known : MethodsKnown
unfolding MethodsKnown known among
methods_known method = simp or-false

pub untaken_right : UntakenRight
unfolding UntakenRight untaken
untaken_right c h =
    let fits : ltb (Q c - 1) c.r3 ≡ false = le-ltb (Q c - 1) c.r3 (omega (arith, h)) in (
      λ m. ap refused_by (method_2_of c.method m) ∙ rw fits,
      λ m. ap refused_by (method_3_of c.method m) ∙ rw fits,
      λ m. ap refused_by (method_5_of c.method m),
    )
  where
    refused_by : Method → Bool
    refused_by f = ltb (f.r3_most (Q c)) c.r3 || ltb f.b_most c.b

pub answer_right : AnswerRight
unfolding AnswerRight masked
answer_right table c e = rw (answer_is c table (accepted c table e)) (simp xors)

pub answer_small : AnswerSmall
unfolding AnswerSmall masked
answer_small table c e =
    let taken = accepted c table e in
    rw (answer_is c table taken) (below c.m (below c.m (taken.1.table.small _) taken.1.s1) taken.1.s2)

pub answers_agree : AnswersAgree
unfolding AnswersAgree masked
answers_agree table c d e f secret s1 s2 =
    let index : c.x0 ⊕ (c.r1 ⊕ c.r2) ≡ d.x0 ⊕ (d.r1 ⊕ d.r2) = simp assoc at secret in
    let same : masked c table (c.r1 ⊕ c.r2) ≡ masked d table (d.r1 ⊕ d.r2) = rw (index, s1, s2) in
    answer_is c table (accepted c table e) ∙ same ∙ sym (answer_is d table (accepted d table f))

pub answer_kept : AnswerKept
unfolding AnswerKept scratch_after scratch_length Q
answer_kept table scratch c e room =
    let taken = accepted c table e in
    let k = taken.1 in (
      λ m.
          let found = method_2_of c.method m in
          let long = subst (λ (f : Method). f.scratch_length (2 ^ c.n) ≤ length scratch) found room in
          ap (λ (f : Method). at (f.scratch c table scratch) c.r3) found
          ∙ byte_r3 c table scratch long k.r1 k.r2 k.r3 ∙ sym (answer_is c table taken),
      λ m.
          ap (λ (f : Method). at (f.scratch c table scratch) (Q c + c.x0)) (method_5_of c.method m)
          ∙ byte_x0 c table scratch k.x0
          ∙ answer_5_is c table k.x0 k.r2 ∙ sym (answer_is c table taken),
    )

pub rest_kept : RestKept
unfolding RestKept scratch_after scratch_length Q
rest_kept table scratch c e =
    let taken = accepted c table e in
    (taken_right c table taken).rest c table scratch taken.1

pub began_clean : BeganClean
unfolding BeganClean
began_clean table scratch lent c (inl e) = zeros_before c table scratch e
began_clean table scratch lent c (inr e) = zeros_before c table scratch (logged_plain c table scratch lent e).0

pub zeros_taken : ZerosTaken
unfolding ZerosTaken
zeros_taken table scratch lent c room e =
    let k : Clean c scratch = record { room = room; clean = zeros_clean _ scratch e } in (
      plain_by_case c table scratch k,
      λ long. logged_by_plain c table scratch lent (log_not_refused c lent long) ∙ plain_by_case c table scratch k,
    )

pub cleared_taken : ClearedTaken
unfolding ClearedTaken
cleared_taken table size c h = plain_by_case c table (replicate size 0) (cleared c size h)

pub lengths_right : LengthsRight
unfolding LengthsRight log_length scratch_length method_of found
lengths_right n = (omega arith, omega arith, omega arith, refl, refl, refl)

-- the log, its entries packed in some way
abbrev packed_log : (pack : ℕ → ℕ → ℕ) → Case → (table : List ℕ) → List ℕ
packed_log pack c table = lines (λ a r. pack r.kind (r.value c table a)) (Q c) (method_of c.method).layout

-- what holds of the entry of every small row holds of every entry
each_entry : {P : ℕ → Type 0} (pack : ℕ → ℕ → ℕ) (table : List ℕ) (c : Case) → Taken c table
    → ((a : ℕ) (r : Row) → Small c table a r → P (pack r.kind (r.value c table a)))
    → Each P (packed_log pack c table)
each_entry pack table c taken h =
    let small = taken_right c table taken in
    each_line (λ a r. pack r.kind (r.value c table a)) (Q c) (method_of c.method).layout
    (each_map (h 0) (small.head c table taken.1))
    (λ a l. each_map (h a) (small.passes c table taken.1 a l)) (each_map (h 0) (small.end c table taken.1))

pub log_long : LogLong
unfolding LogLong log_of log_length Q
log_long table c e =
    let taken = accepted c table e in (
      lines_long (row_entry c table) (Q c) (method_of c.method).layout,
      none_large 4294967296 (each_entry entry table c taken (λ a r s. entry_small (byte_fits s.kind) (byte_fits (value_byte taken.1 s)))),
    )

pub values_small : ValuesSmall
unfolding ValuesSmall log_of at
values_small table c e i =
    let taken = accepted c table e in
    each_at {P = λ v. value_of v < 2 ^ max c.n c.m} 0 i (rw value_zero (pow_pos _))
    (each_entry entry table c taken
    (λ a r s. rw (entry_value r.kind (r.value c table a), value_kept (byte_fits (value_byte taken.1 s))) s.value))

-- one reading of every entry: what it gives of a small row is what the row has
read_back : (pack : ℕ → ℕ → ℕ) (read : ℕ → ℕ) (wanted : ℕ → Row → ℕ) (table : List ℕ) (c : Case) → Taken c table
    → ((a : ℕ) (r : Row) → Small c table a r → read (pack r.kind (r.value c table a)) ≡ wanted a r)
    → map read (packed_log pack c table) ≡ lines wanted (Q c) (method_of c.method).layout
read_back pack read wanted table c taken h =
    let small = taken_right c table taken in
    let layout = (method_of c.method).layout in
    let show : ℕ → Row → ℕ = λ a r. pack r.kind (r.value c table a) in
    lines_map show read (Q c) layout
    ∙ lines_agree (λ a r. read (show a r)) wanted (Q c) layout (each_map (h 0) (small.head c table taken.1))
    (λ a l. each_map (h a) (small.passes c table taken.1 a l)) (each_map (h 0) (small.end c table taken.1))

pub log_read_back : LogReadBack
unfolding LogReadBack log_of
log_read_back table c e =
    let taken = accepted c table e in (
      read_back entry kind_of (λ a r. r.kind) table c taken (λ a r s. entry_kind (byte_fits (value_byte taken.1 s))),
      read_back entry value_of (λ a r. r.value c table a) table c taken
          (λ a r s. entry_value _ _ ∙ value_kept (byte_fits (value_byte taken.1 s))),
    )

pub entry_read_back : EntryReadBack
unfolding EntryReadBack
entry_read_back kind value h k = (entry_small h k, entry_kind k, entry_value kind value ∙ value_kept k)

-- two ways of packing and reading that give the same of every small row do so at every position
read_alike : (new old : ℕ → ℕ → ℕ) (read_new read_old : ℕ → ℕ) → read_new 0 ≡ 0 → read_old 0 ≡ 0 → (table : List ℕ) (c : Case)
    → Taken c table → ((a : ℕ) (r : Row) → Small c table a r
    → read_new (new r.kind (r.value c table a)) ≡ read_old (old r.kind (r.value c table a)))
    → (i : ℕ) → read_new (at (packed_log new c table) i) ≡ read_old (at (packed_log old c table) i)
unfolding at
read_alike new old read_new read_old z o table c taken h i =
    sym (at_map read_new 0 z (packed_log new c table) i)
    ∙ ap (λ ls. at ls i)
    (read_back new read_new (λ a r. read_old (old r.kind (r.value c table a))) table c taken h
    ∙ sym (lines_map (λ a r. old r.kind (r.value c table a)) read_old (Q c) (method_of c.method).layout))
    ∙ at_map read_old 0 o (packed_log old c table) i

pub wide_as_narrow : WideAsNarrow
unfolding WideAsNarrow log_of narrow_log kind_of value_of narrow_kind_of narrow_value_of at
wide_as_narrow table c e =
    let taken = accepted c table e in
    let byte : (a : ℕ) (r : Row) → Small c table a r → r.value c table a < 256 = λ a r s. value_byte taken.1 s in
    let layout = (method_of c.method).layout in (
      lines_long (row_entry c table) (Q c) layout ∙ sym (lines_long (λ a r. narrow_entry r.kind (r.value c table a)) (Q c) layout),
      none_large 65536 (each_entry narrow_entry table c taken (λ a r s. narrow_small s.kind (byte a r s))),
      λ i. (
        read_alike entry narrow_entry kind_of narrow_kind_of refl refl table c taken
            (λ a r s. entry_kind (byte_fits (byte a r s)) ∙ sym (narrow_kind (byte a r s))) i,
        read_alike entry narrow_entry value_of narrow_value_of refl refl table c taken
            (λ a r s. entry_value r.kind _ ∙ value_kept (byte_fits (byte a r s)) ∙ sym (narrow_value r.kind (byte a r s))) i,
        each_at {P = λ v. v % 65536 < 256} 0 i (omega arith)
            (each_entry entry table c taken (λ a r s. rw (entry_value r.kind _, value_kept (byte_fits (byte a r s))) (byte a r s))),
      ),
    )
