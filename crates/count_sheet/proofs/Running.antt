-- The logged call of one choice: it is accepted on cleared scratch, and the pair of values that its log shows has a place in the sheet.
use mathlib.Core.Path.{◌≡◌, sym, ap, ◌∙◌}
use mathlib.Core.Bool.{false}
use mathlib.Core.List.{List, ◌++◌, append-nil}
use Prim.Native.Nat.{ℕ, suc, ◌+◌, ◌*◌, ◌^◌, ◌≤◌, ◌<◌}
use native.Mathlib.Nat.{le_of_eq, le_of_lt, max-le, suc-mul, mul-le-mul, mul-le-mul_right}
use native.Mathlib.Omega.{arith}
use mir.Syntax.{w32, w64}
use mir.Val.{Fits}
use lib.ListN.{length, get_or, drop, set, replicate, drop_of_length-le, length-replicate}
use lib.Pow.{pow_mono}
use lib.Seq.{take_all}
use Rattle.refusals.specs.Left.{left}
use Rattle.buffers.specs.Written.{in_front}
use Rattle.counting.proofs.Numbered.{numbered_within}
use Rattle.table.specs.Balanced.{at}
use Rattle.lookup.specs.declared.Case.{Case}
use Rattle.lookup.specs.Call.{log_of, log_length, scratch_length}
use Rattle.lookup.specs.Refusals.{dirty, case_refusal, logged_refusal}
use Rattle.lookup.specs.Promises.{LogLong, ValuesSmall}
use Rattle.lookup.proofs.Accepted.{not_refused}
use Rattle.lookup.proofs.Entry.{value_fits}
use Rattle.lookup.proofs.Promises.{log_long, values_small}
use Rattle.lookup.proofs.Refused.{zeros_clean}
use Rattle.calls.specs.Reply.{logged_log}
use Rattle.secrecy.specs.Count.{chosen_case, mask_widths, value_at}
use Rattle.secrecy.specs.Promises.{ChoicesAccepted}
use Rattle.secrecy.proofs.Lent.{choice_taken, choices_accepted}
use Rattle.count_sheet.specs.declared.ProbePair.{ProbePair}
use Rattle.count_sheet.specs.Refusals.{value_width}
use Rattle.count_sheet.specs.Runs.{Countable, numbered_case, place_of, one_more}
use Rattle.count_sheet.proofs.Places.{squared}

-- two digits to the base 2^k are below its square
pub place_below : (k u v : ℕ) → u < 2 ^ k → v < 2 ^ k → u * 2 ^ k + v < 2 ^ (2 * k)
place_below k u v h l =
    let side = 2 ^ k in
    let rows : suc u * side ≤ side * side = mul-le-mul_right side h in
    rw (squared k) (omega (arith, rows, suc-mul u side))

module _ (p : ProbePair) (table : List ℕ) (t : Countable p table) (number : ℕ) where
  case_accepted : case_refusal (numbered_case p number) table ≡ 0
  unfolding numbered_case
  case_accepted =
      not_refused (numbered_case p number) table
      (choice_taken table p.method p.n p.m p.secret _ t.table t.method t.secret
      (numbered_within (mask_widths p.method p.n p.m) number))

  pub log_size : length (log_of (numbered_case p number) table) ≡ log_length p.method p.n
  unfolding numbered_case chosen_case LogLong
  log_size = (log_long table (numbered_case p number) case_accepted).0

  pub value_within : (i : ℕ) → value_at (log_of (numbered_case p number) table) i < 2 ^ value_width p
  unfolding numbered_case chosen_case value_at value_width ValuesSmall
  value_within i = values_small table (numbered_case p number) case_accepted i

  pub place_within : place_of p (log_of (numbered_case p number) table) < 2 ^ (2 * value_width p)
  unfolding place_of
  place_within = place_below (value_width p) _ _ (value_within p.first) (value_within p.second)

  pub width_most : value_width p ≤ 3
  unfolding value_width
  width_most = max-le t.input t.output

  -- the offset of a count, which takes four bytes, fits
  pub offset_fits : (after : List ℕ) (place : ℕ) → place ≡ place_of p after → Fits w64 (place * 4)
  unfolding place_of value_at
  offset_fits after place q =
      let side : 2 ^ value_width p ≤ 8 = pow_mono width_most in
      let row = mul-le-mul (le_of_lt (value_fits (at after p.first))) side in
      record { fits = omega (arith, q, row, value_fits (at after p.second)) }

  module _ (case : Case) (e : case ≡ numbered_case p number) where
    -- the call is made on cleared scratch of the length that it needs, so it is accepted
    call_accepted : (before scratch log : List ℕ) → length before ≡ scratch_length p.method p.n → scratch ≡ replicate (length before) 0
        → length log ≡ log_length p.method p.n → logged_refusal case table scratch log ≡ 0
    unfolding numbered_case ChoicesAccepted
    call_accepted before scratch log h zeros l =
        let k = scratch_length p.method p.n in
        let now : scratch ≡ replicate k 0 = zeros ∙ rw h in
        let long : length scratch ≡ k = ap length now ∙ length-replicate k 0 in
        let clean : dirty k scratch ≡ false = zeros_clean k scratch (take_all k scratch (le_of_eq long) ∙ now) in
        rw e
        (choices_accepted table scratch log p.method p.n p.m p.secret _ t.table t.method t.secret
        (numbered_within (mask_widths p.method p.n p.m) number) (le_of_eq (sym long)) clean (le_of_eq (sym l)))

    -- the log that it leaves is the defined one
    module _ (before scratch log after : List ℕ) (b : length before ≡ scratch_length p.method p.n)
        (zeros : scratch ≡ replicate (length before) 0)
        (h : length log ≡ log_length p.method p.n) (w : after ≡ logged_log case table scratch log) where
      pub log_is : after ≡ log_of (numbered_case p number) table
      unfolding logged_log left in_front
      log_is =
          let new = log_of (numbered_case p number) table in
          let none : drop (length new) log ≡ _ = drop_of_length-le log (le_of_eq (h ∙ sym log_size)) in
          w ∙ rw (call_accepted before scratch log b zeros h, e) (ap (λ rest. new ++ rest) none ∙ append-nil new)

      module _ (place : ℕ) (q : place ≡ place_of p after) (sheet : List ℕ) (room : length sheet ≡ 2 ^ (2 * value_width p)) where
        place_is : place ≡ place_of p (log_of (numbered_case p number) table)
        place_is = q ∙ ap (place_of p) log_is

        pub place_in : place < length sheet
        place_in = rw (place_is, room) place_within

        pub one_fits : at sheet (place_of p (log_of (numbered_case p number) table)) < 65536 → Fits w32 (get_or sheet place 0 + 1)
        unfolding at
        one_fits few = rw place_is (record { fits = omega (arith, few) })

        pub counted_one : set sheet place (get_or sheet place 0 + 1) ≡ one_more (place_of p (log_of (numbered_case p number) table)) sheet
        unfolding at one_more
        counted_one = rw place_is

-- the lemmas that are found at a goal of one run by what they conclude
pub ruleset one_choice = (width_most, offset_fits, place_in, one_fits, counted_one)
