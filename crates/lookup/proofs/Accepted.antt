-- What an accepted case knows of its method, its numbers and its table.
use mathlib.Core.Path.{◌≡◌, sym}
use mathlib.Core.Bool.{true}
use mathlib.Core.List.{List}
use Prim.Native.Nat.{ℕ, ◌^◌, ◌≤◌, ◌<◌}
use native.Mathlib.Nat.{lt_of_lt_of_le}
use native.Mathlib.Omega.{arith}
use borrow.Author.Tests.{ltb-false, le-ltb, not-false}
use lib.Pow.{pow_mono}
use Rattle.refusals.proofs.Checks.{passed, passed_both, goes, goes_both, none_applies}
use Rattle.refusals.proofs.Tests.{neither, neither_of, all_below, one_below, none_below}
use Rattle.table.specs.Refusals.{table_checks, table_refusal}
use Rattle.table.proofs.Refusals.{Table, table_accepted, table_numbered, table_not_refused}
use Rattle.lookup.specs.declared.Case.{Case}
use Rattle.lookup.specs.Case.{Q}
use Rattle.lookup.specs.Method.{Method}
use Rattle.lookup.specs.Methods.{known, method_of}
use Rattle.lookup.specs.Bounded.{Bounded}
use Rattle.lookup.specs.Refusals.{case_refusal, case_checks, box_checks, method_checks, mask_checks, untaken}

pub record Accepted (method : Method) (c : Case) (xs : List ℕ) : Type 0 where
  pub table : Table c.n c.m xs
  pub x0 : c.x0 < Q c
  pub r1 : c.r1 < Q c
  pub r2 : c.r2 < Q c
  pub r3 : c.r3 < Q c
  pub r3_taken : c.r3 ≤ method.r3_most (Q c)
  pub s1 : c.s1 < 2 ^ c.m
  pub s2 : c.s2 < 2 ^ c.m
  pub b : c.b ≤ method.b_most

-- the method is known, and it accepts the case
abbrev pub Taken : Case → (table : List ℕ) → Type 0
Taken c table = (known c.method ≡ true) × Accepted (method_of c.method) c table

pub accepted : (c : Case) (table : List ℕ) → case_refusal c table ≡ 0 → Taken c table
unfolding case_refusal case_checks box_checks method_checks mask_checks untaken table_refusal
accepted c table e =
    let method = passed _ 1 _ e in
    let both = passed_both (table_checks c.n c.m table) _ (table_numbered c.n c.m table) method.1 in
    let shares = passed _ 9 _ both.1 in
    let outputs = passed _ 10 _ shares.1 in
    let taken = neither _ _ (passed _ 11 _ outputs.1).0 in
    let h0 = all_below _ c.x0 _ shares.0 in
    let h1 = all_below _ c.r1 _ h0.1 in
    let h2 = all_below _ c.r2 _ h1.1 in
    let h3 = all_below _ c.r3 _ h2.1 in
    let k1 = all_below _ c.s1 _ outputs.0 in
    let k2 = all_below _ c.s2 _ k1.1 in (
      not-false _ method.0,
      record {
        table = table_accepted c.n c.m table both.0;
        x0 = h0.0;
        r1 = h1.0;
        r2 = h2.0;
        r3 = h3.0;
        r3_taken = ltb-false _ _ taken.0;
        s1 = k1.0;
        s2 = k2.0;
        b = ltb-false _ _ taken.1;
      },
    )

-- and nothing else is asked of it
pub not_refused : (c : Case) (table : List ℕ) → Taken c table → case_refusal c table ≡ 0
unfolding case_refusal case_checks box_checks method_checks mask_checks untaken table_refusal
not_refused c table taken =
    let k = taken.1 in
    let inputs = one_below _ _ _ k.x0 (one_below _ _ _ k.r1 (one_below _ _ _ k.r2 (one_below _ _ _ k.r3 (none_below _)))) in
    let outputs = one_below _ _ _ k.s1 (one_below _ _ _ k.s2 (none_below _)) in
    let masks = goes 10 _ inputs (goes 11 _ outputs (goes 12 _ (neither_of (le-ltb _ _ k.r3_taken) (le-ltb _ _ k.b)) none_applies)) in
    let table_passes = sym (table_not_refused c.n c.m table k.table) in
    sym
    (goes 2 _ (rw taken.0)
    (goes_both (table_checks c.n c.m table) (mask_checks c) (table_numbered c.n c.m table) table_passes masks))

-- the numbers of an accepted case are bounded as the runs ask
pub accepted_bounded : (method : Method) (c : Case) (table : List ℕ) → method.b_most < 2 → Accepted method c table → Bounded c
unfolding Q
accepted_bounded method c table bit k =
    let byte : (v : ℕ) → v < 2 ^ c.m → v < 256
    = λ v h. lt_of_lt_of_le h (pow_mono k.table.output_most) in
    record {
      width = k.table.input_most;
      size = pow_mono k.table.input_most;
      x0 = k.x0;
      r1 = k.r1;
      r2 = k.r2;
      r3 = k.r3;
      s1 = byte c.s1 k.s1;
      s2 = byte c.s2 k.s2;
      b = omega (arith, k.b);
    }
