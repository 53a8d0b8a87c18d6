-- The checks of the scratch, 13 and 19, as the code goes through them, and the loop that looks for a byte that is not zero.
use mathlib.Core.Path.{◌≡◌, refl, sym, ap, ◌∙◌}
use mathlib.Core.Bool.{Bool, true, false, not, cond, ◌||◌, or-true, or-false}
use mathlib.Core.List.{List, [], ◌∷◌}
use Prim.Native.Nat.{ℕ, zero, suc, ◌+◌, ◌≤◌, ◌<◌}
use native.Mathlib.Numerals.{add-one}
use native.Mathlib.Omega.{arith}
use borrow.Author.Tests.{lt-ltb, le-ltb, le-leb}
use lib.Dec.{leb, eqb}
use lib.ListN.{length, get_or, take, set, length-set}
use lib.Seq.{take-suc, get_or-set_same, get_or-set_other}
use Rattle.refusals.specs.Checks.{first_of}
use Rattle.refusals.specs.Tests.{any_from}
use Rattle.refusals.proofs.Checks.{stops, goes, none_applies}
use Rattle.refusals.proofs.Tests.{any_either}
use Rattle.lookup.specs.declared.Case.{Case}
use Rattle.lookup.specs.Call.{scratch_length}
use Rattle.lookup.specs.Refusals.{dirty, scratch_checks}

module _ (c : Case) (scratch : List ℕ) (size : ℕ) (s : size ≡ scratch_length c.method c.n) where
  pub at_13 : length scratch < size → 13 ≡ first_of (scratch_checks c scratch)
  unfolding scratch_checks
  at_13 h = stops 13 _ (lt-ltb _ _ (rw s at h))

  module _ (h : size ≤ length scratch) (r : Bool) (told : r ≡ dirty size scratch) where
    -- what `dirty` told, of the length that the method needs
    found : {t : Bool} → r ≡ t → dirty (scratch_length c.method c.n) scratch ≡ t
    found e = rw s at (sym told ∙ e)

    pub at_19 : r ≡ true → 19 ≡ first_of (scratch_checks c scratch)
    unfolding scratch_checks
    at_19 e = goes 13 _ (le-ltb _ _ (rw s at h)) (stops 19 _ (found e))

    pub at_clean : r ≡ false → 0 ≡ first_of (scratch_checks c scratch)
    unfolding scratch_checks
    at_clean e = goes 13 _ (le-ltb _ _ (rw s at h)) (goes 19 _ (found e) none_applies)

nonzero : (b : ℕ) → leb 1 (suc b) ≡ true
nonzero b = le-leb 1 (suc b) (omega arith)

-- the cells after i bytes: the second is marked just if one of them is not zero
pub record Marked (scratch cells : List ℕ) (size i : ℕ) : Type 0 where
  pub two : length cells ≡ 2
  pub second : get_or cells 1 0 ≡ cond (any_from 1 (take i scratch)) 1 0
  pub within : i ≤ size

module _ (scratch : List ℕ) (size : ℕ) where
  pub marked_begins : Marked scratch (0 ∷ 0 ∷ []) size 0
  unfolding any_from
  marked_begins = record { two = refl; second = refl; within = omega arith }

  one_more : (i : ℕ) → i < length scratch → any_from 1 (take (i + 1) scratch) ≡ (any_from 1 (take i scratch) || leb 1 (get_or scratch i 0))
  unfolding any_from
  one_more i h =
      ap (λ k. any_from 1 (take k scratch)) (add-one i) ∙ ap (any_from 1) (take-suc scratch i 0 h)
      ∙ any_either 1 (take i scratch) (get_or scratch i 0 ∷ []) ∙ ap (λ t. any_from 1 (take i scratch) || t) (or-false _)

  -- by the byte, zero or not
  marked_by : (any : Bool) (cells : List ℕ) (b : ℕ) → length cells ≡ 2 → get_or cells 1 0 ≡ cond any 1 0
      → get_or (set cells (cond (leb 1 b) 1 0) 1) 1 0 ≡ cond (any || leb 1 b) 1 0
  marked_by any cells zero l e = get_or-set_other cells 0 1 1 0 (λ z. omega arith) ∙ rw (or-false any) e
  marked_by any cells (suc b) l e = rw (nonzero b, or-true any) (get_or-set_same cells 1 1 0 (omega (arith, l)))

  pub marked_turns : (cells : List ℕ) (i at : ℕ) → size ≤ length scratch → i < size → at ≡ cond (leb 1 (get_or scratch i 0)) 1 0
      → Marked scratch cells size i → Marked scratch (set cells at 1) size (i + 1)
  marked_turns cells i at room h e m =
      record {
        two = simp length-set m.two;
        second = rw (one_more i (omega arith), e) (marked_by (any_from 1 (take i scratch)) cells (get_or scratch i 0) m.two m.second);
        within = omega arith;
      }

  -- behind the last byte
  module _ (cells : List ℕ) (i : ℕ) (h : size ≤ i) (m : Marked scratch cells size i) where
    second_tells : get_or cells 1 0 ≡ cond (dirty size scratch) 1 0
    unfolding dirty
    second_tells =
        let whole : i ≡ size = omega (arith, m.within) in
        rw whole at m.second

    pub marked_ends : not (eqb (get_or cells 1 0) 0) ≡ dirty size scratch
    marked_ends = ap (λ v. not (eqb v 0)) second_tells ∙ by_cases (dirty size scratch)
      where
        by_cases : (t : Bool) → not (eqb (cond t 1 0) 0) ≡ t
        by_cases true = refl
        by_cases false = refl
