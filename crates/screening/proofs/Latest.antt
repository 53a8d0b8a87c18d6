-- The latest bytes as one byte more comes, and as windows of a run.
use mathlib.Core.Path.{◌≡◌, refl, sym, ap, ◌∙◌}
use mathlib.Core.List.{List, [], ◌∷◌, ◌++◌}
use Prim.Native.Nat.{ℕ, suc, ◌+◌, ◌-◌, ◌≤◌, ◌<◌}
use native.Mathlib.Nat.{le_of_lt}
use native.Mathlib.Omega.{arith}
use borrow.Author.Tests.{eq-eqb}
use lib.ListN.{length, get_or, take, length-append}
use lib.Seq.{drop-cons, drop-append-le, drop_at, take-add, take-length, take_all, length-take-le}
use Rattle.table.specs.Balanced.{at, count_of}
use Rattle.screening.specs.Report.{window}
use Rattle.screening.specs.Window.{latest}

-- up to 512 bytes, all of them
pub latest_all : (come : List ℕ) → length come ≤ 512 → latest come ≡ come
unfolding latest
latest_all come h =
    let none : length come - 512 ≡ 0 = omega arith in
    rw none

module _ (come : List ℕ) (byte : ℕ) where
  long : length (come ++ (byte ∷ [])) ≡ length come + 1
  long = length-append come (byte ∷ [])

  -- one more, while fewer than 512 have come
  pub latest_open : length come < 512 → latest (come ++ (byte ∷ [])) ≡ latest come ++ (byte ∷ [])
  latest_open h =
      latest_all (come ++ (byte ∷ [])) (omega (arith, long)) ∙ ap (λ l. l ++ (byte ∷ [])) (sym (latest_all come (le_of_lt h)))

  -- after that the first of them leaves
  pub latest_full : 512 ≤ length come → at come (length come - 512) ∷ latest (come ++ (byte ∷ [])) ≡ latest come ++ (byte ∷ [])
  unfolding latest at
  latest_full h =
      let k : ℕ = length come - 512 in
      let next : length (come ++ (byte ∷ [])) - 512 ≡ suc k = omega (arith, long) in
      rw (next, drop-append-le (suc k) come (byte ∷ []) (omega arith), drop-cons come k 0 (omega arith))

-- which is among them
pub latest_first : (come : List ℕ) → 512 ≤ length come → 0 < count_of (at come (length come - 512)) (latest come)
unfolding latest at count_of
latest_first come h =
    let first : ℕ = get_or come (length come - 512) 0 in
    rw (drop-cons come (length come - 512) 0 (omega arith), eq-eqb first first refl) (omega arith)

module _ (run : List ℕ) where
  -- a window of 512 bytes is the latest of those up to its end
  pub window_latest : (start : ℕ) → start + 512 ≤ length run → window run start ≡ latest (take (start + 512) run)
  unfolding window latest
  window_latest start h =
      let long : length (take (start + 512) run) ≡ start + 512 = length-take-le _ run h in
      let front : length (take start run) ≡ start = length-take-le start run (omega arith) in
      let from : length (take (start + 512) run) - 512 ≡ start = omega arith in
      rw (from, take-add start 512 run) (sym (drop_at (take start run) _ start front))

  -- and a run of at most 512 is one window
  pub window_whole : length run ≤ 512 → window run 0 ≡ latest (take (length run) run)
  unfolding window
  window_whole h = take_all 512 run h ∙ sym (ap latest (take-length run) ∙ latest_all run h)
