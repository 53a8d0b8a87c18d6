-- The checks of a frame, 26, 27 and 13, as the code goes through them, and what an accepted frame has passed.
use mathlib.Core.Path.{◌≡◌, sym, ◌∙◌}
use mathlib.Core.Bool.{not, true, false}
use mathlib.Core.List.{List, [], ◌∷◌}
use Prim.Native.Nat.{ℕ, ◌≤◌, ◌<◌}
use borrow.Author.Tests.{eqb-true, ne_eqb, eq-eqb, ltb-false, lt-ltb, le-ltb, not-false}
use lib.Dec.{eqb, ltb}
use lib.ListN.{length}
use Rattle.std.specs.Prelude.{Option, Some, None, is_some}
use Rattle.refusals.specs.Checks.{◌when◌, first_of}
use Rattle.refusals.proofs.Checks.{stops, goes, none_applies, passed}
use Rattle.screening.specs.Report.{faulty_run, report}
use Rattle.screening.proofs.Promises.{told_faulty, told_clean}
use Rattle.frame.specs.Frame.{frame_checks, frame_refusal}

module _ (random scratch : List ℕ) where
  -- the screening tells a start just if the run is faulty
  told_fault : (told : Option ℕ) → told ≡ report random → is_some told ≡ faulty_run random
  told_fault (Some start) e = sym (told_faulty random start e)
  told_fault None e = sym (told_clean random e)

  pub at_26 : (length random ≡ 632 → ⊥) → 26 ≡ frame_refusal random scratch
  unfolding frame_refusal frame_checks
  at_26 h = stops 26 _ (rw (ne_eqb (length random) 632 h))

  module _ (h : length random ≡ 632) where
    -- what the screening has told
    module _ (told : Option ℕ) (e : told ≡ report random) where
      pub at_27 : true ≡ is_some told → 27 ≡ frame_refusal random scratch
      unfolding frame_refusal frame_checks
      at_27 f = goes 26 _ (rw (eq-eqb (length random) 632 h)) (stops 27 _ (sym (f ∙ told_fault told e)))

      after_27 : {r : ℕ} → false ≡ is_some told → r ≡ first_of (13 when (ltb (length scratch) 256) ∷ []) → r ≡ frame_refusal random scratch
      unfolding frame_refusal frame_checks
      after_27 f g = goes 26 _ (rw (eq-eqb (length random) 632 h)) (goes 27 _ (sym (f ∙ told_fault told e)) g)

      pub at_13 : false ≡ is_some told → length scratch < 256 → 13 ≡ frame_refusal random scratch
      at_13 f l = after_27 f (stops 13 _ (lt-ltb _ _ l))

      pub at_none : false ≡ is_some told → 256 ≤ length scratch → 0 ≡ frame_refusal random scratch
      at_none f l = after_27 f (goes 13 _ (le-ltb _ _ l) none_applies)

  -- nothing was refused
  module _ (j : ℕ) (told : j ≡ frame_refusal random scratch) (z : j ≡ 0) where
    all : (not (eqb (length random) 632) ≡ false) × (first_of (27 when (faulty_run random) ∷ 13 when (ltb (length scratch) 256) ∷ []) ≡ 0)
    unfolding frame_refusal frame_checks
    all = passed (not (eqb (length random) 632)) 25 _ (sym told ∙ z)

    pub random_long : length random ≡ 632
    random_long = eqb-true _ _ (not-false (eqb (length random) 632) all.0)

    pub scratch_room : 256 ≤ length scratch
    scratch_room = ltb-false _ _ (passed (ltb (length scratch) 256) 12 [] (passed (faulty_run random) 26 _ all.1).1).0
