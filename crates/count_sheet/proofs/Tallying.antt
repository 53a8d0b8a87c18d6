-- What the runs so far have counted, entry by entry, and that all of them count what the third demand counts.
use mathlib.Core.Path.{◌≡◌, refl, sym, ap, ap₂, ◌∙◌}
use mathlib.Core.Bool.{Bool, true, false, cond, ◌&&◌}
use mathlib.Core.List.{List, map}
use Prim.Native.Nat.{ℕ, ◌+◌, ◌*◌, ◌/◌, ◌%◌, ◌^◌, ◌≤◌, ◌<◌}
use native.Mathlib.Decide.{ℕ_discrete}
use native.Mathlib.Nat.{div-add-mod', add-zero}
use native.Mathlib.Numerals.{add-one}
use native.Mathlib.Omega.{arith}
use borrow.Author.Tests.{eq-eqb, ne_eqb, eqb-true}
use lib.Dec.{eqb}
use lib.ListN.{length, set, replicate, length-set, length-replicate}
use lib.Pow.{high, low, pow_mono}
use Rattle.counting.specs.Sum.{sum}
use Rattle.counting.specs.Choice.{total}
use Rattle.counting.proofs.Sum.{sum_ext, sum_most}
use Rattle.counting.proofs.Numbered.{over_numbered}
use Rattle.table.specs.Balanced.{at}
use Rattle.table.proofs.Tabulate.{tabulate_only}
use Rattle.lookup.specs.Method.{class_width}
use Rattle.lookup.specs.Methods.{method_of}
use Rattle.lookup.specs.Call.{log_of, log_length, scratch_length}
use Rattle.lookup.proofs.Places.{at_same, at_other, at_replicate}
use Rattle.secrecy.specs.Count.{mask_widths, value_at, shows, count}
use Rattle.count_sheet.specs.declared.ProbePair.{ProbePair}
use Rattle.count_sheet.specs.Refusals.{value_width}
use Rattle.count_sheet.specs.Sheet.{count_for, counts}
use Rattle.count_sheet.specs.Runs.{Countable, numbered_case, place_of, one_more}
use Rattle.count_sheet.proofs.Masks.{few_bits}
use Rattle.count_sheet.proofs.Running.{value_within, place_within}

-- two digits are those of a number just if they make it
digits_of : (k u v e : ℕ) → v < 2 ^ k → (eqb u (e / 2 ^ k) && eqb v (e % 2 ^ k)) ≡ eqb (u * 2 ^ k + v) e
digits_of k u v e h = by_cases (ℕ_discrete (u * 2 ^ k + v) e)
  where
    side : ℕ
    side = 2 ^ k

    other : (s t : Bool) → eqb u (e / side) ≡ s → eqb v (e % side) ≡ t → (u * side + v ≡ e → ⊥) → (s && t) ≡ false
    other true true a b ne =
        absurd (ne (ap₂ (λ x y. x * side + y) (eqb-true _ _ a) (eqb-true _ _ b) ∙ div-add-mod' e side))
    other true false a b ne = refl
    other false t a b ne = refl

    by_cases : Dec (u * side + v ≡ e) → (eqb u (e / side) && eqb v (e % side)) ≡ eqb (u * side + v) e
    by_cases (yes q) = rw (← q, high u k h, low u k h, eq-eqb u u refl, eq-eqb v v refl, eq-eqb (u * side + v) (u * side + v) refl)
    by_cases (no ne) = rw (ne_eqb _ _ ne) (other _ _ refl refl ne)

shown_at : (p : ProbePair) (log : List ℕ) (e : ℕ) → value_at log p.second < 2 ^ value_width p
    → shows p.first p.second (e / 2 ^ value_width p) (e % 2 ^ value_width p) log ≡ cond (eqb (place_of p log) e) 1 0
unfolding shows place_of
shown_at p log e h = ap (λ t. cond t 1 0) (digits_of (value_width p) _ _ e h)

one_more_at : (place : ℕ) (sheet : List ℕ) (e : ℕ) → place < length sheet → at (one_more place sheet) e ≡ at sheet e + cond (eqb place e) 1 0
unfolding one_more
one_more_at place sheet e h = by_cases (ℕ_discrete place e)
  where
    by_cases : Dec (place ≡ e) → at (set sheet place (at sheet place + 1)) e ≡ at sheet e + cond (eqb place e) 1 0
    by_cases (yes q) = rw (eq-eqb place e q, ← q) (at_same sheet place _ h)
    by_cases (no ne) = rw (ne_eqb place e ne) (at_other sheet place e _ (λ q. ne (sym q)) ∙ sym (add-zero _))

at_most_one : (t : Bool) → cond t 1 0 ≤ 1
at_most_one true = omega arith
at_most_one false = omega arith

module _ (p : ProbePair) (table : List ℕ) where
  -- 1 where the choice of this number is counted at the entry
  abbrev pub counted_at : (number e : ℕ) → ℕ
  counted_at k e = cond (eqb (place_of p (log_of (numbered_case p k) table)) e) 1 0

  -- the sheet after the choices below a number, and buffers of the runs' lengths
  pub record Tallied (choices : ℕ) (scratch log sheet : List ℕ) (number : ℕ) : Type 0 where
    pub countable : Countable p table
    pub bits : choices ≡ 2 ^ total (mask_widths p.method p.n p.m)
    pub bytes : length scratch ≡ scratch_length p.method p.n
    pub entries : length log ≡ log_length p.method p.n
    pub long : length sheet ≡ 2 ^ (2 * value_width p)
    pub each : (e : ℕ) → e < 2 ^ (2 * value_width p) → at sheet e ≡ sum number (λ k. counted_at k e)
    pub within : number ≤ choices

  module _ (t : Countable p table) where
    few_choices : 2 ^ total (mask_widths p.method p.n p.m) ≤ 65536
    unfolding mask_widths
    few_choices = pow_mono (few_bits p.method p.n p.m t.method t.input t.output)

    -- the choices are the third demand's
    pub count_is : (e : ℕ) → count_for table p (e / 2 ^ value_width p) (e % 2 ^ value_width p)
        ≡ sum (2 ^ total (mask_widths p.method p.n p.m)) (λ k. counted_at k e)
    unfolding count_for count numbered_case
    count_is e =
        over_numbered (mask_widths p.method p.n p.m) _
        ∙ sum_ext _ (λ k _. shown_at p (log_of (numbered_case p k) table) e (value_within p table t k p.second))

    pub count_most : (e : ℕ) → count_for table p (e / 2 ^ value_width p) (e % 2 ^ value_width p) ≤ 65536
    count_most e =
        let most = sum_most (2 ^ total (mask_widths p.method p.n p.m)) 1 (λ k. at_most_one (eqb (place_of p (log_of (numbered_case p k) table)) e)) in
        omega (arith, count_is e, most, few_choices)

  -- nothing is counted yet
  pub tallied_begins : (choices bits : ℕ) (widths scratch log sheet : List ℕ) → Countable p table
      → widths ≡ map (class_width p.n p.m) (method_of p.method).mask_classes → bits ≡ total widths → choices ≡ 2 ^ bits
      → length scratch ≡ scratch_length p.method p.n → length log ≡ log_length p.method p.n
      → sheet ≡ replicate (2 ^ (2 * value_width p)) 0 → Tallied choices scratch log sheet 0
  unfolding mask_widths sum
  tallied_begins choices bits widths scratch log sheet t w b c bytes entries zeros =
      record {
        countable = t;
        bits = rw (c, b, w);
        bytes = bytes;
        entries = entries;
        long = rw zeros (simp length-replicate);
        each = λ e h. rw zeros (at_replicate _ e 0 h);
        within = omega arith;
      }

  module _ (choices : ℕ) (scratch log sheet : List ℕ) (number : ℕ) (c : Tallied choices scratch log sheet number) (h : number < choices) where
    -- a count is no more than the choices so far
    pub tallied_few : at sheet (place_of p (log_of (numbered_case p number) table)) < 65536
    tallied_few =
        let place = place_of p (log_of (numbered_case p number) table) in
        let most = sum_most number 1 (λ k. at_most_one (eqb (place_of p (log_of (numbered_case p k) table)) place)) in
        omega (arith, c.each place (place_within p table c.countable number), most, c.bits, few_choices c.countable)

    pub tallied_turns : (scratch' log' sheet' : List ℕ) → length scratch' ≡ length scratch → length log' ≡ length log
        → sheet' ≡ one_more (place_of p (log_of (numbered_case p number) table)) sheet → Tallied choices scratch' log' sheet' (number + 1)
    unfolding one_more sum
    tallied_turns scratch' log' sheet' s l e =
        let place = place_of p (log_of (numbered_case p number) table) in
        let room : place < length sheet = rw c.long (place_within p table c.countable number) in
        record {
          countable = c.countable;
          bits = c.bits;
          bytes = s ∙ c.bytes;
          entries = l ∙ c.entries;
          long = rw e (simp length-set c.long);
          each = λ i b. rw (e, add-one number) (one_more_at place sheet i room ∙ ap (λ n. n + counted_at number i) (c.each i b));
          within = omega arith;
        }

  pub tallied_ends : (choices : ℕ) (scratch log sheet : List ℕ) (number : ℕ) → choices ≤ number → Tallied choices scratch log sheet number
      → sheet ≡ counts table p
  unfolding counts
  tallied_ends choices scratch log sheet number h c =
      let whole : number ≡ choices = omega (arith, c.within) in
      tabulate_only _ _ sheet c.long (λ e b. c.each e b ∙ rw (whole, c.bits) (sym (count_is c.countable e)))
