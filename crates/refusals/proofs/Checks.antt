-- The laws of a list of checks, as code that goes through it needs them.
use mathlib.Core.Path.{◌≡◌, refl, sym, ap}
use mathlib.Core.Bool.{Bool, true, false, not, ◌&&◌, cond, and-eq-true_iff}
use mathlib.Core.List.{List, [], ◌∷◌, ◌++◌}
use Prim.Native.Nat.{ℕ, suc, ◌≤◌, ◌<◌}
use native.Mathlib.Omega.{arith}
use borrow.Author.Tests.{leb-true, ltb-true, eqb-false, not-true}
use lib.Dec.{eqb, leb, ltb}
use Rattle.refusals.specs.Checks.{Check, ◌when◌, first_of}

-- the first check applies
pub stops : {t : Bool} (k : ℕ) (cs : List Check) → t ≡ true → k ≡ first_of (k when t ∷ cs)
unfolding first_of
stops k cs e = rw e

-- it does not
pub goes : {t : Bool} {r : ℕ} (k : ℕ) (cs : List Check) → t ≡ false → r ≡ first_of cs → r ≡ first_of (k when t ∷ cs)
unfolding first_of
goes k cs e f = rw e f

pub none_applies : 0 ≡ first_of []
unfolding first_of
none_applies = refl

-- nothing was refused, so the first check does not apply, nor a later one
past : (t : Bool) (k r : ℕ) → 0 < k → cond t k r ≡ 0 → (t ≡ false) × (r ≡ 0)
past true k r h e = absurd (omega arith)
past false k r h e = (refl, e)

pub passed : (t : Bool) (k : ℕ) (cs : List Check) → first_of (suc k when t ∷ cs) ≡ 0 → (t ≡ false) × (first_of cs ≡ 0)
unfolding first_of
passed t k cs e = past t (suc k) (first_of cs) (omega arith) e

-- another number was handed back, so the first check does not apply
pub passed_other : (t : Bool) (k r : ℕ) (cs : List Check) → (k ≡ r → ⊥) → first_of (k when t ∷ cs) ≡ r → (t ≡ false) × (first_of cs ≡ r)
unfolding first_of
passed_other true k r cs h e = absurd (h e)
passed_other false k r cs h e = (refl, e)

-- each check has a number other than 0, which means acceptance
unfoldable pub numbered : List Check → Bool
numbered [] = true
numbered (c ∷ cs) = ltb 0 c.number && numbered cs

-- nothing was refused by one list of checks after another, so by neither of them
pub passed_both : (cs ds : List Check) → numbered cs ≡ true → first_of (cs ++ ds) ≡ 0 → (first_of cs ≡ 0) × (first_of ds ≡ 0)
unfolding first_of numbered
passed_both [] ds h e = (refl, e)
passed_both (c ∷ cs) ds h e =
    let given = (and-eq-true_iff (ltb 0 c.number) (numbered cs)).0 h in
    let here = past c.applies c.number (first_of (cs ++ ds)) (ltb-true 0 c.number given.0) e in
    let later = passed_both cs ds given.1 here.1 in
    (rw here.0 later.0, later.1)

-- one list of checks after another: the first refuses, or it does not
pub stops_both : {r : ℕ} (cs ds : List Check) → r ≡ first_of cs → (r ≡ 0 → ⊥) → r ≡ first_of (cs ++ ds)
unfolding first_of
stops_both [] ds e h = absurd (h e)
stops_both {r} (c ∷ cs) ds e h = stops_both_by_cases c.applies e (λ f. stops_both cs ds f h)
  where
    stops_both_by_cases : (t : Bool) → r ≡ cond t c.number (first_of cs) → (r ≡ first_of cs → r ≡ first_of (cs ++ ds))
        → r ≡ cond t c.number (first_of (cs ++ ds))
    stops_both_by_cases true e f = e
    stops_both_by_cases false e f = f e

pub goes_both : {r : ℕ} (cs ds : List Check) → numbered cs ≡ true → 0 ≡ first_of cs → r ≡ first_of ds → r ≡ first_of (cs ++ ds)
unfolding first_of numbered
goes_both [] ds h e f = f
goes_both (c ∷ cs) ds h e f =
    let given = (and-eq-true_iff (ltb 0 c.number) (numbered cs)).0 h in
    let here = past c.applies c.number (first_of cs) (ltb-true 0 c.number given.0) (sym e) in
    rw here.0 (goes_both cs ds given.1 (sym here.1) f)

-- checks behind a list that refuse nothing change nothing
pub none_behind : (cs ds : List Check) → first_of ds ≡ 0 → first_of (cs ++ ds) ≡ first_of cs
unfolding first_of
none_behind [] ds e = e
none_behind (c ∷ cs) ds e = ap (cond c.applies c.number) (none_behind cs ds e)

-- nor do checks before a list, or between two
pub none_before : (cs ds : List Check) → numbered cs ≡ true → first_of cs ≡ 0 → first_of (cs ++ ds) ≡ first_of ds
none_before cs ds h e = sym (goes_both cs ds h (sym e) refl)

pub none_between : (bs cs ds : List Check) → numbered cs ≡ true → first_of cs ≡ 0 → first_of (bs ++ (cs ++ ds)) ≡ first_of (bs ++ ds)
unfolding first_of
none_between [] cs ds h e = none_before cs ds h e
none_between (b ∷ bs) cs ds h e = ap (cond b.applies b.number) (none_between bs cs ds h e)

-- no check has the number, and so it is not handed back
unfoldable pub without : (number : ℕ) → List Check → Bool
without k [] = true
without k (c ∷ cs) = not (eqb c.number k) && without k cs

pub never : (k : ℕ) (cs : List Check) → without (suc k) cs ≡ true → first_of cs ≡ suc k → ⊥
unfolding first_of without
never k [] h e = absurd (omega arith)
never k (c ∷ cs) h e =
    let both = (and-eq-true_iff (not (eqb c.number (suc k))) (without (suc k) cs)).0 h in
    either c.applies (eqb-false _ _ (not-true _ both.0)) (never k cs both.1) e
  where
    either : (t : Bool) {m r : ℕ} → (m ≡ suc k → ⊥) → (r ≡ suc k → ⊥) → cond t m r ≡ suc k → ⊥
    either true h l = h
    either false h l = l

-- no check has a number above the most, and so no number above it is handed back
unfoldable pub up_to : (most : ℕ) → List Check → Bool
up_to most [] = true
up_to most (c ∷ cs) = leb c.number most && up_to most cs

pub first_most : (most : ℕ) (cs : List Check) → up_to most cs ≡ true → first_of cs ≤ most
unfolding first_of up_to
first_most most [] h = omega arith
first_most most (c ∷ cs) h =
    let both = (and-eq-true_iff (leb c.number most) (up_to most cs)).0 h in
    either c.applies (leb-true _ _ both.0) (first_most most cs both.1)
  where
    either : (t : Bool) {k r : ℕ} → k ≤ most → r ≤ most → cond t k r ≤ most
    either true h l = h
    either false h l = l
