-- What is promised of the screening of a run holds.
use mathlib.Core.Path.{◌≡◌, refl, sym, ap, ◌∙◌}
use mathlib.Core.Bool.{Bool, true, false, ◌||◌, true≢false}
use mathlib.Core.List.{List, ◌++◌}
use Prim.Native.Nat.{ℕ, zero, suc, ◌+◌, ◌-◌, ◌≤◌, ◌<◌}
use native.Mathlib.Nat.{le_refl, le_trans}
use native.Mathlib.Omega.{arith}
use borrow.Author.Tests.{ltb-true, leb-true, leb-false}
use lib.Dec.{ltb, leb}
use lib.ListN.{length, take, drop, replicate, length-replicate, length-drop}
use lib.Seq.{take_all, take_at, drop-append_seam, drop-drop, length-take-le, get_or-take, get_or-drop}
use Rattle.std.specs.Prelude.{Option, Some, None}
use Rattle.table.specs.Balanced.{at, count_of}
use Rattle.table.proofs.Counts.{count_within}
use Rattle.screening.specs.Report.{window, windows, some_below, faulty, faulty_run, first_from, report}
use Rattle.screening.specs.Promises.{FaultRight, WindowsRight, RunRight, Says, ReportRight}
use Rattle.screening.specs.Promises.{EmptyRight, StuckNoticed, FewPasses, WindowRight}
use Rattle.screening.proofs.Occurrences.{count_front, count_part, count_same}
use Rattle.screening.proofs.Holding.{holds_after}
use Rattle.screening.proofs.Reports.{some_passes, none_passes, too_often, not_faulty, none_from, found_from, Found, finds, windows_count, windows_most}

-- some number below the limit passes, so one does
one_passes : (limit : ℕ) (test : ℕ → Bool) → some_below limit test ≡ true → (k : ℕ) × (k < limit) × (test k ≡ true)
unfolding some_below
one_passes zero test e = absurd (true≢false (sym e))
one_passes (suc limit) test e = either (some_below limit test) e (λ f. one_passes limit test f)
  where
    either : (t : Bool) → (t || test limit) ≡ true → (t ≡ true → (k : ℕ) × (k < limit) × (test k ≡ true))
        → (k : ℕ) × (k < suc limit) × (test k ≡ true)
    either true e h =
        let found = h refl in
        (found.0, omega (arith, found.1), found.2)
    either false e h = (limit, le_refl _, e)

-- some value stands too often in a faulty list of bytes
too_often_found : (bytes : List ℕ) → faulty bytes ≡ true → (value : ℕ) × (value < 256) × (20 < count_of value bytes)
unfolding faulty
too_often_found bytes e =
    let found = one_passes 256 (λ value. ltb 20 (count_of value bytes)) e in
    (found.0, found.1, ltb-true 20 _ found.2)

pub fault_right : FaultRight
unfolding FaultRight
fault_right bytes = (too_often_found bytes, λ value h l. too_often bytes value h l)

pub windows_right : WindowsRight
unfolding WindowsRight windows window at
windows_right = (
  refl,
  λ run h l. (windows_count run h ∙ omega arith, take_all 512 run l),
  λ run h. (
    windows_count run (omega arith) ∙ omega arith,
    λ start l. length-take-le 512 (drop start run) (omega (arith, length-drop start run, windows_most run)),
  ),
  λ run start i h. get_or-take 512 (drop start run) i 0 h ∙ get_or-drop start run i 0,
)

-- what stands too often anywhere does so in a window: the last one where fewer than 512 bytes are left
module _ (run : List ℕ) (start value : ℕ) (b : value < 256) (l : 20 < count_of value (take 512 (drop start run))) where
  abbrev last : ℕ
  last = length run - 512

  count : windows run ≡ suc last
  count = windows_count run (omega (arith, count_part value 512 start run, count_within value run))

  early : start ≤ last → faulty_run run ≡ true
  unfolding faulty_run window
  early h = some_passes (windows run) _ start (omega (arith, count)) (too_often _ value b l)

  late : last < start → faulty_run run ≡ true
  unfolding faulty_run window
  late h =
      let there : last + (start - last) ≡ start = omega arith in
      let rest : drop (start - last) (drop last run) ≡ drop start run
      = drop-drop (start - last) last run ∙ ap (λ (n : ℕ). drop n run) there in
      let most = rw rest at (count_part value 512 (start - last) (drop last run)) in
      let whole : take 512 (drop last run) ≡ drop last run = take_all 512 (drop last run) (omega (arith, length-drop last run)) in
      some_passes (windows run) _ last (omega (arith, count)) (too_often _ value b (rw whole (omega (arith, most))))

  in_window : faulty_run run ≡ true
  in_window = in_window_by_cases (leb start last) refl
    where
      in_window_by_cases : (t : Bool) → leb start last ≡ t → faulty_run run ≡ true
      in_window_by_cases true e = early (leb-true start last e)
      in_window_by_cases false e = late (leb-false start last e)

pub run_right : RunRight
unfolding RunRight faulty_run window
run_right run = (there, in_window run)
  where
    there : faulty_run run ≡ true → (start : ℕ) × (value : ℕ) × (value < 256) × (20 < count_of value (take 512 (drop start run)))
    there e =
        let found = one_passes (windows run) (λ start. faulty (window run start)) e in
        let often = too_often_found (window run found.0) found.2 in
        (found.0, often.0, often.1, often.2)

-- what the search over the windows finds, in the words of the promise
says : (run : List ℕ) (r : Option ℕ) → Found 0 (windows run) (λ start. faulty (window run start)) r → Says run r
unfolding Says Found
says run (Some k) f = (omega (arith, f.1), f.2, λ j l. f.3 j (omega arith) l)
says run None f = λ k l. f k (omega arith) (omega arith)

reported : (run : List ℕ) → Says run (report run)
unfolding report
reported run = says run _ (finds 0 (windows run) _)

-- what a call that reports tells of the run
pub told_faulty : (run : List ℕ) (start : ℕ) → Some start ≡ report run → faulty_run run ≡ true
unfolding faulty_run Says
told_faulty run start e =
    let there : Says run (Some start) = rw (← e) at (reported run) in
    some_passes (windows run) _ start there.0 there.1

pub told_clean : (run : List ℕ) → None ≡ report run → faulty_run run ≡ false
unfolding faulty_run Says
told_clean run e =
    let nowhere : Says run None = rw (← e) at (reported run) in
    none_passes (windows run) _ nowhere

pub report_right : ReportRight
unfolding ReportRight Says report
report_right run = (reported run, only, λ start e. told_faulty run start (sym e), λ e. told_clean run (sym e))
  where
    only : (other : Option ℕ) → Says run other → other ≡ report run
    only (Some k) s = sym (found_from 0 (windows run) _ k (omega arith) (omega (arith, s.0)) s.1 (λ j z l. s.2 j l))
    only None s = sym (none_from 0 (windows run) _ (λ k z l. s k (omega arith)))

pub empty_right : EmptyRight
unfolding EmptyRight report faulty_run windows first_from some_below
empty_right = (refl, refl)

-- 21 bytes of one value
stuck : (rest : List ℕ) (value : ℕ) → 20 < count_of value (take 512 (replicate 21 value ++ rest))
stuck rest value =
    let bytes : List ℕ = replicate 21 value ++ rest in
    let front : take 21 bytes ≡ replicate 21 value = take_at (replicate 21 value) rest 21 (length-replicate 21 value) in
    let often : count_of value (take 21 bytes) ≡ 21 = ap (count_of value) front ∙ count_same value 21 in
    omega (arith, count_front value bytes 21 512 (omega arith))

pub stuck_noticed : StuckNoticed
unfolding StuckNoticed report windows window
stuck_noticed = (
  λ before rest value b. in_window _ (length before) value b (rw (drop-append_seam before (replicate 21 value ++ rest)) (stuck rest value)),
  λ rest value b. found_from 0 _ _ 0 (omega arith) (omega arith) (too_often _ value b (stuck rest value)) (λ j z l. absurd (omega arith)),
)

pub few_passes : FewPasses
unfolding FewPasses report window
few_passes run h =
    none_from 0 (windows run) _
    (λ start z l. not_faulty (take 512 (drop start run)) (λ value b. le_trans (count_part value 512 start run) (h value b)))

pub window_right : WindowRight
unfolding WindowRight
window_right = holds_after
