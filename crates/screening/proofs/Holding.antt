-- What a window holds as one byte more comes.
use mathlib.Core.Path.{◌≡◌, refl, sym, ap, ◌∙◌}
use mathlib.Core.Bool.{Bool, true, false, cond}
use mathlib.Core.List.{List, [], ◌∷◌, ◌++◌}
use mathlib.Core.Logic.{inl, inr}
use Prim.Native.Nat.{ℕ, zero, suc, ◌+◌, ◌-◌, ◌%◌, ◌≤◌, ◌<◌}
use native.Mathlib.Nat.{eq-or-lt_of_le}
use native.Mathlib.Numerals.{add-one}
use native.Mathlib.Omega.{arith}
use borrow.Author.Tests.{ltb-true, ltb-false, lt-ltb, le-ltb, eqb-true, eqb-false}
use lib.Dec.{eqb, ltb}
use lib.ListN.{length, get_or, take, set, length-set, length-replicate, get_or-replicate}
use lib.Seq.{take-suc, get_or-set_same, get_or-set_other, length-take-le, get_or-take}
use Rattle.table.specs.Balanced.{at, count_of}
use Rattle.table.proofs.Counts.{one_more}
use Rattle.screening.specs.declared.Window.{Window}
use Rattle.screening.specs.Window.{empty_window, without, with_one, fed_one, after, latest, Holds}
use Rattle.screening.proofs.Occurrences.{count_last}
use Rattle.screening.proofs.Latest.{latest_open, latest_full, latest_first}

-- a counter is taken down
one_less : (counts : List ℕ) (e v : ℕ) → e < length counts → 0 < at counts e
    → at (set counts e (at counts e - 1)) v + cond (eqb e v) 1 0 ≡ at counts v
unfolding at
one_less counts e v h p = one_less_by_cases (eqb e v) refl
  where
    one_less_by_cases : (t : Bool) → eqb e v ≡ t → get_or (set counts e (get_or counts e 0 - 1)) v 0 + cond t 1 0 ≡ get_or counts v 0
    one_less_by_cases true q = rw (← eqb-true e v q, get_or-set_same counts e _ 0 h) (omega arith)
    one_less_by_cases false q = omega (arith, get_or-set_other counts e v (get_or counts e 0 - 1) 0 (λ p. eqb-false e v q (sym p)))

-- a byte leaves from position 512 on, and none before
pub none_leaves : (position byte : ℕ) (counts : List ℕ) → position < 512 → counts ≡ without position byte counts
unfolding without
none_leaves position byte counts h = rw (lt-ltb position 512 h)

pub one_leaves : (position byte : ℕ) (counts : List ℕ) → 512 ≤ position → set counts byte (get_or counts byte 0 - 1) ≡ without position byte counts
unfolding without at
one_leaves position byte counts h = rw (le-ltb position 512 h)

-- nothing has come
holds_nothing : Holds [] empty_window
unfolding empty_window at count_of latest
holds_nothing =
    record {
      ring_long = length-replicate {A = ℕ} 512 0;
      recorded = λ i h l. absurd (omega arith);
      counts_long = length-replicate {A = ℕ} 256 0;
      counted = λ v h. get_or-replicate {A = ℕ} 256 v 0 0 h;
    }

module _ (run : List ℕ) (small : (k : ℕ) → at run k < 256) (held : Window) (i : ℕ) (h : i < length run) (holds : Holds (take i run) held) where
  abbrev come : List ℕ
  come = take i run

  -- the byte that comes, and the one whose place it takes
  abbrev byte : ℕ
  byte = at run i

  abbrev leaving : ℕ
  leaving = at held.ring (i % 512)

  -- the counts in between
  abbrev passed : List ℕ
  passed = without i leaving held.counts

  come_long : length come ≡ i
  come_long = length-take-le i run (omega arith)

  pub next : take (i + 1) run ≡ come ++ (byte ∷ [])
  unfolding at
  next = rw (add-one i) (take-suc run i 0 h)

  -- once 512 have come, the first of the latest leaves
  leaves_first : 512 ≤ i → leaving ≡ at come (length come - 512)
  leaves_first full =
      let place : (i - 512) % 512 ≡ i % 512 = omega arith in
      let start : length come - 512 ≡ i - 512 = omega (arith, come_long) in
      rw (start, ← place) (holds.recorded (i - 512) (omega (arith, come_long)) (omega (arith, come_long)))

  leaves_small : 512 ≤ i → leaving < 256
  unfolding at
  leaves_small full = rw (leaves_first full, get_or-take i run (length come - 512) 0 (omega (arith, come_long))) (small _)

  -- so its counter can be taken down
  pub leaves_counted : 512 ≤ i → 0 < at held.counts leaving
  leaves_counted full =
      rw (holds.counted leaving (leaves_small full), leaves_first full) (latest_first come (omega (arith, come_long)))

  taken_down : 512 ≤ i → (v : ℕ)
      → at (set held.counts leaving (at held.counts leaving - 1)) v + cond (eqb leaving v) 1 0 ≡ at held.counts v
  taken_down full v = one_less held.counts leaving v (rw holds.counts_long (leaves_small full)) (leaves_counted full)

  latest_counts : 512 ≤ i → (v : ℕ)
      → cond (eqb leaving v) 1 0 + count_of v (latest (come ++ (byte ∷ []))) ≡ count_of v (latest come) + cond (eqb byte v) 1 0
  unfolding count_of
  latest_counts full v =
      rw (leaves_first full) (ap (count_of v) (latest_full come byte (omega (arith, come_long))) ∙ count_last v (latest come) byte)

  -- the counts in between: as many as before, none of them more, and with the byte that comes those of the latest then
  pub record Passing : Type 0 where
    pub long : length passed ≡ 256
    pub less : (v : ℕ) → v < 256 → at passed v ≤ at held.counts v
    pub counted : (v : ℕ) → v < 256 → count_of v (latest (come ++ (byte ∷ []))) ≡ at passed v + cond (eqb byte v) 1 0

  pub passing : Passing
  unfolding without
  passing = passing_by_cases (ltb i 512) refl
    where
      passing_by_cases : (t : Bool) → ltb i 512 ≡ t → Passing
      passing_by_cases true e =
          let open_still = ltb-true i 512 e in
          record {
            long = rw e holds.counts_long;
            less = λ v l. rw e (omega arith);
            counted =
                λ v l. rw (e, latest_open come byte (omega (arith, come_long)), holds.counted v l) (count_last v (latest come) byte);
          }
      passing_by_cases false e =
          let full = ltb-false i 512 e in
          record {
            long = rw e (length-set held.counts leaving _ ∙ holds.counts_long);
            less = λ v l. rw e (omega (arith, taken_down full v));
            counted = λ v l. rw e (omega (arith, taken_down full v, holds.counted v l, latest_counts full v));
          }

  recorded_next : (k : ℕ) → k < i + 1 → i + 1 ≤ k + 512 → at (set held.ring (i % 512) byte) (k % 512) ≡ at (take (i + 1) run) k
  unfolding at
  recorded_next k l m =
      let last : k ≤ i = omega arith in
      rw (get_or-take (i + 1) run k 0 l)
      (elim (eq-or-lt_of_le last) [
        | inl p ↦ rw p (get_or-set_same held.ring (i % 512) _ 0 (rw holds.ring_long (omega arith)))
        | inr q ↦ get_or-set_other held.ring (i % 512) (k % 512) _ 0 (λ p. omega arith)
            ∙ holds.recorded k (omega (arith, come_long)) (omega (arith, come_long)) ∙ get_or-take i run k 0 q
      ])

  -- the window with the byte in it
  holds_next : Holds (take (i + 1) run) (fed_one i (at run i) held)
  unfolding fed_one with_one at
  holds_next =
      let more : length (take (i + 1) run) ≡ i + 1 = length-take-le (i + 1) run (omega arith) in
      let room : byte < length passed = rw passing.long (small i) in
      record {
        ring_long = length-set held.ring (i % 512) _ ∙ holds.ring_long;
        recorded = λ k l m. recorded_next k (rw more at l) (rw more at m);
        counts_long = length-set passed byte _ ∙ passing.long;
        counted = λ v l. rw next (one_more passed byte v room ∙ sym (passing.counted v l));
      }

-- after each byte of a run
pub holds_after : (run : List ℕ) → ((k : ℕ) → at run k < 256) → (i : ℕ) → i ≤ length run → Holds (take i run) (after run i)
unfolding after
holds_after run small zero h = holds_nothing
holds_after run small (suc i) h = rw (← add-one i) (holds_next run small (after run i) i h (holds_after run small i (omega arith)))
