-- The checks of a count, part by part, as the code goes through them, and what an accepted count has passed.
use mathlib.Core.Path.{◌≡◌, refl, sym, ◌∙◌}
use mathlib.Core.Bool.{Bool, true, false, not}
use mathlib.Core.List.{List, [], ◌∷◌, ◌++◌}
use Prim.Native.Nat.{ℕ, max, ◌*◌, ◌^◌, ◌≤◌, ◌<◌}
use native.Mathlib.Omega.{arith}
use borrow.Author.Tests.{lt-ltb, le-ltb, le-leb, lt-leb, ltb-false, leb-false, not-false}
use lib.Dec.{leb}
use lib.ListN.{length}
use Rattle.refusals.specs.Checks.{◌when◌, first_of}
use Rattle.refusals.specs.Tests.{any_from}
use Rattle.refusals.proofs.Checks.{stops, goes, none_applies, numbered, passed, passed_both, stops_both, goes_both}
use Rattle.refusals.proofs.Tests.{some_here, some_later, one_below, none_below, all_below}
use Rattle.table.specs.Refusals.{table_checks, table_refusal}
use Rattle.table.proofs.Refusals.{table_accepted, table_numbered}
use Rattle.lookup.specs.Methods.{known}
use Rattle.lookup.specs.Call.{log_length, scratch_length}
use Rattle.count_sheet.specs.declared.ProbePair.{ProbePair}
use Rattle.count_sheet.specs.Refusals.{value_width, pair_checks, buffer_checks, sheet_checks, count_refusal}
use Rattle.count_sheet.specs.Runs.{Countable}

module _ (p : ProbePair) (table : List ℕ) where
  -- 2, then the table's numbers, then the secret's
  module _ (r : Bool) (told : r ≡ known p.method) where
    pub at_2 : not r ≡ true → 2 ≡ first_of (pair_checks p table)
    unfolding pair_checks
    at_2 t = stops 2 _ (rw (← told) t)

    module _ (k : ℕ) (f : not r ≡ false) (e : k ≡ table_refusal p.n p.m table) where
      pub at_table : (k ≡ 0 → ⊥) → k ≡ first_of (pair_checks p table)
      unfolding pair_checks table_refusal
      at_table h = goes 2 _ (rw (← told) f) (stops_both (table_checks p.n p.m table) _ e h)

      module _ (z : k ≡ 0) (inputs : ℕ) (size : inputs ≡ 2 ^ p.n) where
        after_7 : {s : ℕ} → s ≡ first_of (10 when (leb (2 ^ p.n) p.secret) ∷ []) → s ≡ first_of (pair_checks p table)
        unfolding pair_checks table_refusal
        after_7 h =
            goes 2 _ (rw (← told) f)
            (goes_both (table_checks p.n p.m table) _ (table_numbered p.n p.m table) (sym z ∙ e) h)

        pub at_10 : inputs ≤ p.secret → 10 ≡ first_of (pair_checks p table)
        at_10 h = after_7 (stops 10 _ (le-leb _ _ (rw size at h)))

        pub at_pair : p.secret < inputs → 0 ≡ first_of (pair_checks p table)
        at_pair h = after_7 (goes 10 _ (lt-leb _ _ (rw size at h)) none_applies)

  -- the widths of an accepted table
  pub pair_input : (k : ℕ) → k ≡ table_refusal p.n p.m table → k ≡ 0 → p.n < 32
  pair_input k e z = omega (arith, (table_accepted p.n p.m table (sym e ∙ z)).input_most)

  -- what these checks let pass
  pub record PairTaken : Type 0 where
    pub method : known p.method ≡ true
    pub taken : table_refusal p.n p.m table ≡ 0
    pub secret : p.secret < 2 ^ p.n

  pub pair_taken : first_of (pair_checks p table) ≡ 0 → PairTaken
  unfolding pair_checks table_refusal
  pair_taken e =
      let method = passed _ 1 _ e in
      let both = passed_both (table_checks p.n p.m table) _ (table_numbered p.n p.m table) method.1 in
      record { method = not-false _ method.0; taken = both.0; secret = leb-false _ _ (passed _ 9 _ both.1).0 }

  pub input_most : (k : ℕ) → k ≡ first_of (pair_checks p table) → k ≡ 0 → p.n ≤ 8
  input_most k e z = (table_accepted p.n p.m table (pair_taken (sym e ∙ z)).taken).input_most

-- 13 and 14
module _ (p : ProbePair) (scratch log : List ℕ) (bytes : ℕ) (b : bytes ≡ scratch_length p.method p.n) where
  pub at_13 : length scratch < bytes → 13 ≡ first_of (buffer_checks p scratch log)
  unfolding buffer_checks
  at_13 h = stops 13 _ (lt-ltb _ _ (rw b at h))

  module _ (room : bytes ≤ length scratch) (entries : ℕ) (e : entries ≡ log_length p.method p.n) where
    pub at_14 : length log < entries → 14 ≡ first_of (buffer_checks p scratch log)
    unfolding buffer_checks
    at_14 h = goes 13 _ (le-ltb _ _ (rw b at room)) (stops 14 _ (lt-ltb _ _ (rw e at h)))

    pub at_buffers : entries ≤ length log → 0 ≡ first_of (buffer_checks p scratch log)
    unfolding buffer_checks
    at_buffers h = goes 13 _ (le-ltb _ _ (rw b at room)) (goes 14 _ (le-ltb _ _ (rw e at h)) none_applies)

-- 15 to 17
module _ (p : ProbePair) (sheet : List ℕ) where
  pub at_15_n : 3 < p.n → 15 ≡ first_of (sheet_checks p sheet)
  unfolding sheet_checks
  at_15_n h = stops 15 _ (some_here _ _ _ h)

  pub at_15_m : 3 < p.m → 15 ≡ first_of (sheet_checks p sheet)
  unfolding sheet_checks
  at_15_m h = stops 15 _ (some_later _ _ _ (some_here _ _ _ h))

  module _ (n : p.n ≤ 3) (m : p.m ≤ 3) (entries : ℕ) (e : entries ≡ log_length p.method p.n) where
    narrow : any_from 4 (p.n ∷ p.m ∷ []) ≡ false
    narrow = one_below _ _ _ (omega arith) (one_below _ _ _ (omega arith) (none_below _))

    pub at_16_first : entries ≤ p.first → 16 ≡ first_of (sheet_checks p sheet)
    unfolding sheet_checks
    at_16_first h = goes 15 _ narrow (stops 16 _ (some_here _ _ _ (rw e at h)))

    pub at_16_second : entries ≤ p.second → 16 ≡ first_of (sheet_checks p sheet)
    unfolding sheet_checks
    at_16_second h = goes 15 _ narrow (stops 16 _ (some_later _ _ _ (some_here _ _ _ (rw e at h))))

    module _ (first : p.first < entries) (second : p.second < entries) (size : ℕ) (s : size ≡ 2 ^ (2 * max p.n p.m)) where
      within : any_from (log_length p.method p.n) (p.first ∷ p.second ∷ []) ≡ false
      within = one_below _ _ _ (rw e at first) (one_below _ _ _ (rw e at second) (none_below _))

      pub at_17 : length sheet < size → 17 ≡ first_of (sheet_checks p sheet)
      unfolding sheet_checks value_width
      at_17 h = goes 15 _ narrow (goes 16 _ within (stops 17 _ (lt-ltb _ _ (rw s at h))))

      pub at_sheet : size ≤ length sheet → 0 ≡ first_of (sheet_checks p sheet)
      unfolding sheet_checks value_width
      at_sheet h = goes 15 _ narrow (goes 16 _ within (goes 17 _ (le-ltb _ _ (rw s at h)) none_applies))

module _ (p : ProbePair) (table scratch log sheet : List ℕ) where
  pair_numbered : numbered (pair_checks p table) ≡ true
  unfolding numbered pair_checks table_checks
  pair_numbered = refl

  front_numbered : numbered (pair_checks p table ++ buffer_checks p scratch log) ≡ true
  unfolding numbered pair_checks table_checks buffer_checks
  front_numbered = refl

  -- one list after another
  pub pair_refused : (k : ℕ) → k ≡ first_of (pair_checks p table) → (k ≡ 0 → ⊥) → k ≡ count_refusal p table scratch log sheet
  unfolding count_refusal
  pair_refused k e h =
      stops_both (pair_checks p table ++ buffer_checks p scratch log) _ (stops_both (pair_checks p table) (buffer_checks p scratch log) e h) h

  module _ (k : ℕ) (e : k ≡ first_of (pair_checks p table)) (z : k ≡ 0) where
    front : {r : ℕ} → r ≡ first_of (buffer_checks p scratch log) → r ≡ first_of (pair_checks p table ++ buffer_checks p scratch log)
    front h = goes_both (pair_checks p table) _ pair_numbered (sym z ∙ e) h

    pub buffers_refused : (j : ℕ) → j ≡ first_of (buffer_checks p scratch log) → (j ≡ 0 → ⊥) → j ≡ count_refusal p table scratch log sheet
    unfolding count_refusal
    buffers_refused j f h = stops_both (pair_checks p table ++ buffer_checks p scratch log) _ (front f) h

    pub sheet_refused : (j i : ℕ) → j ≡ first_of (buffer_checks p scratch log) → j ≡ 0 → i ≡ first_of (sheet_checks p sheet)
        → i ≡ count_refusal p table scratch log sheet
    unfolding count_refusal
    sheet_refused j i f y h =
        goes_both (pair_checks p table ++ buffer_checks p scratch log) (sheet_checks p sheet) front_numbered (front (sym y ∙ f)) h

  pub record Accepted : Type 0 where
    pub countable : Countable p table
    pub bytes : scratch_length p.method p.n ≤ length scratch
    pub entries : log_length p.method p.n ≤ length log
    pub counts : 2 ^ (2 * value_width p) ≤ length sheet

  pub accepted : count_refusal p table scratch log sheet ≡ 0 → Accepted
  unfolding count_refusal buffer_checks sheet_checks
  accepted e =
      let both = passed_both (pair_checks p table ++ buffer_checks p scratch log) (sheet_checks p sheet) front_numbered e in
      let front = passed_both (pair_checks p table) (buffer_checks p scratch log) pair_numbered both.0 in
      let pair = pair_taken p table front.0 in
      let bytes = passed _ 12 _ front.1 in
      let entries = passed _ 13 _ bytes.1 in
      let widths = passed _ 14 _ both.1 in
      let positions = passed _ 15 _ widths.1 in
      let n = all_below _ p.n _ widths.0 in
      let m = all_below _ p.m _ n.1 in
      let first = all_below _ p.first _ positions.0 in
      let second = all_below _ p.second _ first.1 in
      record {
        countable = record {
          method = pair.method;
          table = pair.taken;
          secret = pair.secret;
          input = omega (arith, n.0);
          output = omega (arith, m.0);
          first = first.0;
          second = second.0;
        };
        bytes = ltb-false _ _ bytes.0;
        entries = ltb-false _ _ entries.0;
        counts = ltb-false _ _ (passed _ 16 _ positions.1).0;
      }

-- the lemmas that are found at the goals of the checks by what they conclude
pub ruleset pair_parts = (at_2, at_10, at_pair, pair_input)

pub ruleset sheet_parts = (at_15_n, at_15_m, at_16_first, at_16_second, at_17, at_sheet)
