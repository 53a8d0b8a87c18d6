-- What is proved of each method: its answer, the scratch behind what it needs, and that every row's kind has eight bits and its value the
-- larger of the two widths.
use mathlib.Core.Path.{◌≡◌}
use mathlib.Core.List.{List}
use Prim.Native.Nat.{ℕ, max, ◌+◌, ◌*◌, ◌-◌, ◌^◌, ◌≤◌, ◌<◌}
use native.Mathlib.Nat.{lt_of_lt_of_le, le_trans, le_refl, le-max_left, le-max_right, max-le}
use native.Mathlib.Omega.{arith}
use lib.Dec.{T, ltb, lit<}
use lib.ListN.{drop}
use lib.Pow.{pow_mono}
use Rattle.bits.specs.Xor.{◌⊕◌}
use Rattle.bits.proofs.Xor.{below}
use Rattle.table.specs.Balanced.{at}
use Rattle.lookup.specs.declared.Case.{Case}
use Rattle.lookup.specs.Case.{Q}
use Rattle.lookup.specs.Layout.{all_rows, layout_size}
use Rattle.lookup.specs.Row.{Row, ◌∶◌, Value, masked}
use Rattle.lookup.specs.Method.{Method}
use Rattle.lookup.specs.Method2.{answer_2, head_2, pass_2, end_2, method_2}
use Rattle.lookup.specs.Method3.{place_3, answer_3, head_3, pass_3, end_3, method_3}
use Rattle.lookup.specs.Method5.{copied, first_half, answer_5, head_5, first_pass_5, second_pass_5, end_5, method_5}
use Rattle.lookup.specs.Methods.{methods}
use Rattle.lookup.proofs.Accepted.{Accepted}
use Rattle.lookup.proofs.Second.{answer_2_is, beyond, r_prime_below}
use Rattle.lookup.proofs.Third.{answer_3_is, compared_small, scratch_3_rest}
use Rattle.lookup.proofs.Fifth.{read_is, copied_is, answer_5_is, scratch_5_rest}
use Rattle.lookup.proofs.Each.{Each, none, more, each_append}

pub record Small (c : Case) (table : List ℕ) (a : ℕ) (row : Row) : Type 0 where
  pub kind : row.kind < 256
  pub value : row.value c table a < 2 ^ max c.n c.m

-- which is at most eight
pub value_byte : {method : Method} {c : Case} {table : List ℕ} {a : ℕ} {row : Row} → Accepted method c table → Small c table a row
    → row.value c table a < 256
value_byte k s = lt_of_lt_of_le s.value (pow_mono (max-le k.table.input_most k.table.output_most))

pub record Right (method : Method) : Type 0 where
  pub answers : (c : Case) (table : List ℕ) → c.x0 < Q c → c.r1 < Q c → c.r2 < Q c → c.r3 < Q c → c.b ≤ method.b_most
      → method.answer c table ≡ masked c table (c.r1 ⊕ c.r2)
  pub rest : (c : Case) (table scratch : List ℕ) → Accepted method c table
      → drop (method.scratch_length (Q c)) (method.scratch c table scratch) ≡ drop (method.scratch_length (Q c)) scratch
  pub bit : method.b_most < 2
  pub short : (turns : ℕ) → layout_size turns method.layout ≤ 9 * turns + 10
  pub lean : (inputs : ℕ) → method.scratch_length inputs ≤ 2 * inputs
  pub head : (c : Case) (table : List ℕ) → Accepted method c table → Each (Small c table 0) method.layout.head
  pub passes : (c : Case) (table : List ℕ) → Accepted method c table → (a : ℕ) → a < Q c
      → Each (Small c table a) (all_rows method.layout.passes)
  pub end : (c : Case) (table : List ℕ) → Accepted method c table → Each (Small c table 0) method.layout.end

module _ (method : Method) (c : Case) (table : List ℕ) (k : Accepted method c table) where
  -- a row whose value has the input's width, the output's, or one bit
  input : {a : ℕ} {v : Value} (kind : ℕ) → T (ltb kind 256) → v c table a < Q c → Small c table a (kind ∶ v)
  unfolding Q
  input kind t h = record { kind = lit< t; value = lt_of_lt_of_le h (pow_mono (le-max_left c.n c.m)) }

  output : {a : ℕ} {v : Value} (kind : ℕ) → T (ltb kind 256) → v c table a < 2 ^ c.m → Small c table a (kind ∶ v)
  output kind t h = record { kind = lit< t; value = lt_of_lt_of_le h (pow_mono (le-max_right c.n c.m)) }

  bit : {a : ℕ} {v : Value} (kind : ℕ) → T (ltb kind 256) → v c table a < 2 → Small c table a (kind ∶ v)
  bit kind t h = record { kind = lit< t; value = lt_of_lt_of_le h (pow_mono (le_trans k.table.input_least (le-max_left c.n c.m))) }

  add : {v u : ℕ} → v < Q c → u < Q c → v ⊕ u < Q c
  unfolding Q
  add = below c.n

  masked_small : (a : ℕ) → masked c table a < 2 ^ c.m
  unfolding masked
  masked_small a = below c.m (below c.m (k.table.small _) k.s1) k.s2

  head_small_2 : Each (Small c table 0) head_2
  head_small_2 =
      more (input 10 tt k.x0) (more (input 1 tt k.r1) (more (input 2 tt k.r2) (more (output 3 tt k.s1) (more (output 4 tt k.s2)
      (more (input 5 tt k.r3)
      (more (input 6 tt (add k.r1 k.r3)) (more (input 7 tt (r_prime_below c k.r1 k.r2 k.r3)) none)))))))

  pass_small_2 : (a : ℕ) → a < Q c → Each (Small c table a) pass_2
  pass_small_2 a h =
      more (input 8 tt h) (more (input 9 tt (add h (r_prime_below c k.r1 k.r2 k.r3))) (more (input 11 tt (add k.x0 h))
      (more (output 12 tt (k.table.small _))
      (more (output 13 tt (below c.m (k.table.small _) k.s1)) (more (output 14 tt (masked_small a)) none)))))

  end_small_2 : Each (Small c table 0) end_2
  end_small_2 =
      let answered : answer_2 c table < 2 ^ c.m = rw (answer_2_is c table k.r1 k.r2 k.r3) (masked_small _) in
      more (input 5 tt k.r3) (more (output 15 tt answered) none)

  module _ (hb : c.b < 2) where
    head_small_3 : Each (Small c table 0) head_3
    head_small_3 =
        let other : 1 - c.b < 2 = omega arith in
        more (input 11 tt k.x0)
        (more (input 1 tt k.r1) (more (input 2 tt k.r2) (more (output 3 tt k.s1) (more (output 4 tt k.s2)
        (more (bit 6 tt hb) (more (input 5 tt k.r3) (more (bit 18 tt other) none)))))))

    pass_small_3 : (a : ℕ) → a < Q c → Each (Small c table a) pass_3
    unfolding place_3
    pass_small_3 a h =
        let p = add k.r1 h in
        more (input 7 tt h) (more (input 8 tt p) (more (input 9 tt (add p k.r3)) (more (input 17 tt (add (add p k.r3) k.r2))
        (more (bit 10 tt (compared_small c table a hb k.r1 k.r2 k.r3 h))
        (more (input 12 tt (add k.x0 h)) (more (output 13 tt (k.table.small _))
        (more (output 14 tt (below c.m (k.table.small _) k.s1)) (more (output 15 tt (masked_small a)) none))))))))

    end_small_3 : Each (Small c table 0) end_3
    end_small_3 =
        let answered : answer_3 c table < 2 ^ c.m = rw (answer_3_is c table hb k.r1 k.r2 k.r3) (masked_small _) in
        more (bit 6 tt hb) (more (output 16 tt answered) none)

  once_small : (i : ℕ) → at table i ⊕ c.s1 < 2 ^ c.m
  once_small i = below c.m (k.table.small i) k.s1

  head_small_5 : Each (Small c table 0) head_5
  head_small_5 =
      more (input 1 tt k.x0) (more (input 2 tt k.r1) (more (input 3 tt k.r2)
      (more (output 4 tt k.s1) (more (output 5 tt k.s2) none))))

  first_small_5 : (a : ℕ) → a < Q c → Each (Small c table a) first_pass_5
  unfolding copied
  first_small_5 a h =
      more (input 6 tt h) (more (input 7 tt (add h k.r1)) (more (output 8 tt (k.table.small _)) (more (output 9 tt (once_small _)) none)))

  second_small_5 : (a : ℕ) → a < Q c → Each (Small c table a) second_pass_5
  second_small_5 a h =
      let first = first_half c table in
      let once : at first (a ⊕ c.r2) < 2 ^ c.m = rw (read_is c table a h k.r2) (once_small _) in
      let twice : copied c.r2 c.s2 first a < 2 ^ c.m = rw (copied_is c table a h k.r2) (below c.m (once_small _) k.s2) in
      more (input 6 tt h) (more (input 10 tt (add h k.r2)) (more (output 11 tt once) (more (output 12 tt twice) none)))

  end_small_5 : Each (Small c table 0) end_5
  end_small_5 =
      let answered : answer_5 c table < 2 ^ c.m = rw (answer_5_is c table k.x0 k.r2) (masked_small _) in
      more (input 1 tt k.x0) (more (output 13 tt answered) none)

right_2 : Right method_2
right_2 =
    record {
      answers = λ c table h0 h1 h2 h3 hb. answer_2_is c table h1 h2 h3;
      rest = λ c table scratch k. beyond c table (Q c) scratch (r_prime_below c k.r1 k.r2 k.r3) (le_refl _);
      bit = lit< tt;
      short = λ turns. omega arith;
      lean = λ inputs. omega arith;
      head = head_small_2 method_2;
      passes = λ c table k a h. each_append (pass_small_2 method_2 c table k a h) none;
      end = end_small_2 method_2;
    }

right_3 : Right method_3
right_3 =
    record {
      answers = λ c table h0 h1 h2 h3 hb. answer_3_is c table (omega (arith, hb)) h1 h2 h3;
      rest = λ c table scratch k. scratch_3_rest c table scratch;
      bit = lit< tt;
      short = λ turns. omega arith;
      lean = λ inputs. omega arith;
      head = λ c table k. head_small_3 method_3 c table k (omega (arith, k.b));
      passes = λ c table k a h. each_append (pass_small_3 method_3 c table k (omega (arith, k.b)) a h) none;
      end = λ c table k. end_small_3 method_3 c table k (omega (arith, k.b));
    }

right_5 : Right method_5
right_5 =
    record {
      answers = λ c table h0 h1 h2 h3 hb. answer_5_is c table h0 h2;
      rest = λ c table scratch k. scratch_5_rest c table scratch;
      bit = lit< tt;
      short = λ turns. omega arith;
      lean = λ inputs. omega arith;
      head = head_small_5 method_5;
      passes = λ c table k a h. each_append (first_small_5 method_5 c table k a h) (each_append (second_small_5 method_5 c table k a h) none);
      end = end_small_5 method_5;
    }

pub right : Each Right methods
right = more right_2 (more right_3 (more right_5 none))
