-- The report from what is known of each window.
use mathlib.Core.Path.{◌≡◌, refl}
use mathlib.Core.Bool.{Bool, true, false, cond, or-true}
use mathlib.Core.List.{List, [], ◌∷◌}
use mathlib.Core.Logic.{inl, inr}
use Prim.Native.Nat.{ℕ, zero, suc, ◌+◌, ◌-◌, ◌≤◌, ◌<◌}
use native.Mathlib.Nat.{le_refl, le_of_suc-le-suc, not-suc-le-zero, eq-or-lt_of_le}
use native.Mathlib.Omega.{arith}
use borrow.Author.Tests.{lt-ltb, le-ltb}
use lib.ListN.{length}
use Rattle.std.specs.Prelude.{Option, Some, None}
use Rattle.table.specs.Balanced.{count_of}
use Rattle.screening.specs.Report.{windows, some_below, faulty, first_from}

-- some number passes, or none does
pub some_passes : (limit : ℕ) (test : ℕ → Bool) (k : ℕ) → k < limit → test k ≡ true → some_below limit test ≡ true
unfolding some_below
some_passes zero test k h e = absurd (not-suc-le-zero h)
some_passes (suc limit) test k h e =
    elim (eq-or-lt_of_le (le_of_suc-le-suc h))
    [ inl p ↦ rw (rw p at e) (or-true (some_below limit test)) | inr l ↦ rw (some_passes limit test k l e) ]

pub none_passes : (limit : ℕ) (test : ℕ → Bool) → ((k : ℕ) → k < limit → test k ≡ false) → some_below limit test ≡ false
unfolding some_below
none_passes zero test h = refl
none_passes (suc limit) test h = rw (none_passes limit test (λ k l. h k (omega arith)), h limit (le_refl _))

module _ (bytes : List ℕ) where
  pub too_often : (value : ℕ) → value < 256 → 20 < count_of value bytes → faulty bytes ≡ true
  unfolding faulty
  too_often value h l = some_passes 256 _ value h (lt-ltb 20 _ l)

  pub not_faulty : ((value : ℕ) → value < 256 → count_of value bytes ≤ 20) → faulty bytes ≡ false
  unfolding faulty
  not_faulty h = none_passes 256 _ (λ value l. le-ltb 20 _ (h value l))

-- of the starts from one on, none passes, or one does and none before it
pub none_from : (start count : ℕ) (test : ℕ → Bool) → ((k : ℕ) → start ≤ k → k < start + count → test k ≡ false) → first_from start count test ≡ None
unfolding first_from
none_from start zero test h = refl
none_from start (suc count) test h =
    rw (h start (le_refl _) (omega arith)) (none_from (suc start) count test (λ k l m. h k (omega arith) (omega arith)))

pub found_from : (start count : ℕ) (test : ℕ → Bool) (k : ℕ) → start ≤ k → k < start + count → test k ≡ true
    → ((j : ℕ) → start ≤ j → j < k → test j ≡ false) → first_from start count test ≡ Some k
unfolding first_from
found_from start zero test k l m e h = absurd (omega arith)
found_from start (suc count) test k l m e h =
    elim (eq-or-lt_of_le l) [
      | inl p ↦ rw (p, e)
      | inr q ↦ rw (h start (le_refl _) q) (found_from (suc start) count test k q (omega arith) e (λ j i n. h j (omega arith) n))
    ]

-- what the search finds: one that passes and none before it, or none that passes
unfoldable pub Found : (start count : ℕ) → (test : ℕ → Bool) → Option ℕ → Type 0
Found start count test (Some k) =
    (start ≤ k) × (k < start + count) × (test k ≡ true) × ((j : ℕ) → start ≤ j → j < k → test j ≡ false)
Found start count test None = (k : ℕ) → start ≤ k → k < start + count → test k ≡ false

-- one start more in front, that does not pass
found_later : (start count : ℕ) (test : ℕ → Bool) (r : Option ℕ) → test start ≡ false → Found (suc start) count test r
    → Found start (suc count) test r
unfolding Found
found_later start count test (Some k) e f =
    (omega (arith, f.0), omega (arith, f.1), f.2, λ j l m. elim (eq-or-lt_of_le l) [ inl p ↦ rw (← p) e | inr q ↦ f.3 j q m ])
found_later start count test None e f =
    λ k l m. elim (eq-or-lt_of_le l) [ inl p ↦ rw (← p) e | inr q ↦ f k q (omega arith) ]

pub finds : (start count : ℕ) (test : ℕ → Bool) → Found start count test (first_from start count test)
unfolding first_from Found
finds start zero test = λ k l m. absurd (omega arith)
finds start (suc count) test = finds_by_cases (test start) refl (finds (suc start) count test)
  where
    finds_by_cases : (t : Bool) → test start ≡ t → Found (suc start) count test (first_from (suc start) count test)
        → Found start (suc count) test (cond t (Some start) (first_from (suc start) count test))
    finds_by_cases true e f = (le_refl _, omega arith, e, λ j l m. absurd (omega arith))
    finds_by_cases false e f = found_later start count test (first_from (suc start) count test) e f

-- how many windows there are
pub windows_count : (run : List ℕ) → 0 < length run → windows run ≡ suc (length run - 512)
unfolding windows
windows_count [] h = absurd (not-suc-le-zero h)
windows_count (x ∷ xs) h = refl

pub windows_most : (run : List ℕ) → windows run ≤ suc (length run - 512)
unfolding windows
windows_most [] = omega arith
windows_most (x ∷ xs) = le_refl _
