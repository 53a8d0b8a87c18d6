-- What the loop over a run keeps, and the report where it ends: the window holds the bytes passed, and no value stood too often so far.
use mathlib.Core.Path.{◌≡◌, refl, sym}
use mathlib.Core.Bool.{Bool, true, false, cond}
use mathlib.Core.List.{List}
use mathlib.Core.Logic.{inl, inr}
use Prim.Native.Nat.{ℕ, ◌+◌, ◌-◌, ◌%◌, ◌≤◌, ◌<◌}
use native.Mathlib.Nat.{le_refl, le_trans, eq-or-lt_of_le}
use native.Mathlib.Numerals.{add-one}
use native.Mathlib.Omega.{arith}
use borrow.Author.Tests.{leb-true, leb-false, eqb-true, eq-eqb}
use lib.Dec.{eqb, leb}
use lib.ListN.{length, get_or, take, set}
use lib.Seq.{length-take-le}
use Rattle.std.specs.Prelude.{Some, None}
use Rattle.table.specs.Balanced.{at, count_of}
use Rattle.screening.specs.declared.Window.{Window}
use Rattle.screening.specs.Report.{window, windows, faulty, report}
use Rattle.screening.specs.Window.{empty_window, without, with_one, fed_one, after, latest, Holds}
use Rattle.screening.proofs.Occurrences.{count_front}
use Rattle.screening.proofs.Latest.{latest_all, window_latest, window_whole}
use Rattle.screening.proofs.Reports.{too_often, not_faulty, none_from, found_from, windows_count, windows_most}
use Rattle.screening.proofs.Holding.{holds_after, leaves_counted, passing, next}

-- none of the fronts up to this length has a value more than 20 times among its latest bytes
pub record Quiet (run : List ℕ) (i : ℕ) : Type 0 where
  pub quiet : (j value : ℕ) → j ≤ i → value < 256 → count_of value (latest (take j run)) ≤ 20

pub record Fed (run : List ℕ) (held : Window) (i : ℕ) : Type 0 where
  pub bytes : (k : ℕ) → at run k < 256
  pub within : i ≤ length run
  pub fed : held ≡ after run i
  pub so_far : Quiet run i

-- the report where none was too often
module _ (run : List ℕ) where
  -- a window that ends within the quiet part is not faulty
  quiet_window : (i start : ℕ) → Quiet run i → start + 512 ≤ i → i ≤ length run → faulty (window run start) ≡ false
  quiet_window i start q h l =
      rw (window_latest run start (omega arith)) (not_faulty _ (λ v b. q.quiet (start + 512) v h b))

  quiet_whole : (start : ℕ) → Quiet run (length run) → start < windows run → faulty (window run start) ≡ false
  quiet_whole start q h = quiet_whole_by_cases (leb (length run) 512) refl
    where
      quiet_whole_by_cases : (t : Bool) → leb (length run) 512 ≡ t → faulty (window run start) ≡ false
      quiet_whole_by_cases true e =
          let short = leb-true (length run) 512 e in
          let first : start ≡ 0 = omega (arith, windows_most run) in
          rw (first, window_whole run short) (not_faulty _ (λ v b. q.quiet (length run) v (le_refl _) b))
      quiet_whole_by_cases false e =
          let long = leb-false (length run) 512 e in
          quiet_window (length run) start q (omega (arith, windows_most run)) (le_refl _)

  pub none_reported : Quiet run (length run) → None ≡ report run
  unfolding report
  none_reported q = sym (none_from 0 (windows run) _ (λ k l m. quiet_whole k q (omega arith)))

  -- the report where one is at byte i
  module _ (i value : ℕ) (q : Quiet run i) (h : i < length run) (b : value < 256) (l : 20 < count_of value (latest (take (i + 1) run))) where
    -- fewer than 512 have come: what stands too often among them does so in the first window
    faulty_first : i + 1 < 512 → faulty (window run 0) ≡ true
    unfolding window
    faulty_first few =
        let long : length (take (i + 1) run) ≡ i + 1 = length-take-le (i + 1) run (omega arith) in
        let all : 20 < count_of value (take (i + 1) run) = rw (latest_all (take (i + 1) run) (omega arith)) at l in
        too_often _ value b (omega (arith, count_front value run (i + 1) 512 (omega arith)))

    faulty_there : faulty (window run (i + 1 - 512)) ≡ true
    faulty_there = faulty_by_cases (leb 512 (i + 1)) refl
      where
        faulty_by_cases : (t : Bool) → leb 512 (i + 1) ≡ t → faulty (window run (i + 1 - 512)) ≡ true
        faulty_by_cases true e =
            let full = leb-true 512 (i + 1) e in
            let end : i + 1 - 512 + 512 ≡ i + 1 = omega arith in
            too_often _ value b (rw (window_latest run (i + 1 - 512) (omega arith), end) l)
        faulty_by_cases false e =
            let few = leb-false 512 (i + 1) e in
            let first : i + 1 - 512 ≡ 0 = omega arith in
            rw first (faulty_first few)

    pub start_reported : Some (i + 1 - 512) ≡ report run
    unfolding report
    start_reported =
        sym
        (found_from 0 (windows run) _ (i + 1 - 512) (omega arith) (omega (arith, windows_count run (omega arith))) faulty_there
        (λ j z n. quiet_window i j q (omega arith) (omega arith)))

module _ (run : List ℕ) where
  pub fed_begins : (held : Window) → ((k : ℕ) → at run k < 256) → held ≡ empty_window → Fed run held 0
  unfolding after latest count_of
  fed_begins held bytes h =
      record {
        bytes = bytes;
        within = omega arith;
        fed = h;
        so_far = record {
          quiet = λ j v l b.
              let none : j ≡ 0 = omega arith in
              rw none (omega arith);
        };
      }

  pub fed_ends : (held : Window) (i : ℕ) → length run ≤ i → Fed run held i → None ≡ report run
  fed_ends held i h f =
      let whole : i ≡ length run = omega (arith, f.within) in
      none_reported run (rw whole at f.so_far)

  module _ (held : Window) (i : ℕ) (f : Fed run held i) (h : i < length run) where
    holds : Holds (take i run) held
    holds = rw f.fed (holds_after run f.bytes i f.within)

    pub can_leave : 512 ≤ i → 0 < at held.counts (get_or held.ring (i % 512) 0)
    unfolding at
    can_leave = leaves_counted run f.bytes held i h holds

    -- what the two calls told of the counts
    module _ (passed : List ℕ) (off : passed ≡ without i (get_or held.ring (i % 512) 0) held.counts) where
      few : (v : ℕ) → v < 256 → at passed v ≤ 20
      unfolding at
      few v b =
          let less = (passing run f.bytes held i h holds).less v b in
          rw off (omega (arith, less, holds.counted v b, f.so_far.quiet i v (le_refl i) b))

      stood : (v : ℕ) → v < 256 → count_of v (latest (take (i + 1) run)) ≡ at passed v + cond (eqb (get_or run i 0) v) 1 0
      unfolding at
      stood v b = rw (next run f.bytes held i h holds, off) ((passing run f.bytes held i h holds).counted v b)

      pub can_come : at passed (get_or run i 0) ≤ 20
      unfolding at
      can_come = few (get_or run i 0) (f.bytes i)

      module _ (often : ℕ) (told : often ≡ at passed (get_or run i 0) + 1) where
        stood_often : count_of (get_or run i 0) (latest (take (i + 1) run)) ≡ often
        unfolding at
        stood_often =
            let here = rw (eq-eqb (get_or run i 0) (get_or run i 0) refl) at (stood (get_or run i 0) (f.bytes i)) in
            omega arith

        pub fed_stops : (start limit : ℕ) → start ≡ i + 1 - 512 → 20 ≤ limit → limit < often → Some start ≡ report run
        unfolding at
        fed_stops start limit e m l = rw e (start_reported run i (get_or run i 0) f.so_far h (f.bytes i) (rw stood_often (omega arith)))

        quiet_next : often ≤ 20 → (v : ℕ) → v < 256 → count_of v (latest (take (i + 1) run)) ≤ 20
        quiet_next l v b = quiet_by_cases (eqb (get_or run i 0) v) refl
          where
            quiet_by_cases : (t : Bool) → eqb (get_or run i 0) v ≡ t → count_of v (latest (take (i + 1) run)) ≤ 20
            quiet_by_cases true e = rw (← eqb-true (get_or run i 0) v e, stood_often) l
            quiet_by_cases false e = rw (stood v b, e) (omega (arith, few v b))

        pub fed_turns : (counts : List ℕ) (limit : ℕ) → counts ≡ with_one (get_or run i 0) passed → limit ≤ 20 → often ≤ limit
            → Fed run (record { ring = set held.ring (i % 512) (get_or run i 0); counts = counts }) (i + 1)
        unfolding after fed_one at
        fed_turns counts limit e n l =
            record {
              bytes = f.bytes;
              within = omega arith;
              fed = rw (add-one i, e, off, f.fed);
              so_far = record {
                quiet = λ j v m b.
                    elim (eq-or-lt_of_le m) [ inl p ↦ rw p (quiet_next (le_trans l n) v b) | inr q ↦ f.so_far.quiet j v (omega arith) b ];
              };
            }
