-- What an accepted selection has passed: its bounds, and a log that is long enough; and that nothing else is refused.
use mathlib.Core.Path.{◌≡◌, refl, sym}
use mathlib.Core.Bool.{Bool, true, false, cond}
use mathlib.Core.List.{List, [], ◌∷◌, ◌++◌}
use Prim.Native.Nat.{ℕ, ◌*◌, ◌^◌, ◌≤◌, ◌<◌}
use native.Mathlib.Omega.{arith}
use borrow.Author.Tests.{ltb-false}
use lib.Dec.{ltb}
use lib.ListN.{length}
use lib.Pow.{pow_mono}
use Rattle.refusals.specs.Checks.{◌when◌, first_of}
use Rattle.refusals.specs.Tests.{outside, any_from}
use Rattle.refusals.proofs.Checks.{goes, none_applies, passed, passed_both}
use Rattle.refusals.proofs.Tests.{inside, not_outside, all_below, one_below, none_below}
use Rattle.halves.specs.declared.Selection.{Selection}
use Rattle.halves.specs.Bounded.{Bounded}
use Rattle.selection.specs.Select.{width_checks, word_checks, bit_checks, mask_checks, plain_select_refusal, select_refusal}
use Rattle.selection.proofs.Checking.{all_numbered}

-- the bounds, from those that the calls ask for
pub bounded_by : (s : Selection) → s.width ≤ 8 → s.z0 < 2 ^ (2 * s.width) → s.z1 < 2 ^ (2 * s.width) → s.z2 < 2 ^ (2 * s.width)
    → s.c0 < 2 → s.c1 < 2 → s.c2 < 2 → s.b < 2 → s.t1 < 2 ^ s.width → s.t2 < 2 ^ s.width → Bounded s
bounded_by s most z0 z1 z2 c0 c1 c2 b t1 t2 =
    record {
      width_most = most;
      halves_most = pow_mono most;
      words_most = pow_mono {j = 16} (omega arith);
      z0 = z0;
      z1 = z1;
      z2 = z2;
      c0 = c0;
      c1 = c1;
      c2 = c2;
      b = b;
      t1 = t1;
      t2 = t2;
    }

pub plain_bounded : (s : Selection) → plain_select_refusal s ≡ 0 → Bounded s
unfolding plain_select_refusal width_checks word_checks bit_checks mask_checks
plain_bounded s e =
    let width = passed (outside 1 8 s.width) 19 _ e in
    let words = passed (any_from (2 ^ (2 * s.width)) (s.z0 ∷ s.z1 ∷ s.z2 ∷ [])) 20 _ width.1 in
    let bits = passed (any_from 2 (s.c0 ∷ s.c1 ∷ s.c2 ∷ s.b ∷ [])) 20 _ words.1 in
    let masks = passed (any_from (2 ^ s.width) (s.t1 ∷ s.t2 ∷ [])) 20 [] bits.1 in
    let z0 = all_below _ _ _ words.0 in
    let z1 = all_below _ _ _ z0.1 in
    let z2 = all_below _ _ _ z1.1 in
    let c0 = all_below _ _ _ bits.0 in
    let c1 = all_below _ _ _ c0.1 in
    let c2 = all_below _ _ _ c1.1 in
    let b = all_below _ _ _ c2.1 in
    let t1 = all_below _ _ _ masks.0 in
    let t2 = all_below _ _ _ t1.1 in
    bounded_by s (inside 1 8 s.width width.0).1 z0.0 z1.0 z2.0 c0.0 c1.0 c2.0 b.0 t1.0 t2.0

pub plain_least : (s : Selection) → plain_select_refusal s ≡ 0 → 1 ≤ s.width
unfolding plain_select_refusal width_checks
plain_least s e = (inside 1 8 s.width (passed (outside 1 8 s.width) 19 _ e).0).0

-- a width that is one of the calls' is not refused with 20
pub large_number : (s : Selection) → 1 ≤ s.width → s.width ≤ 8 → (plain_select_refusal s ≡ 0 → ⊥) → plain_select_refusal s ≡ 21
unfolding plain_select_refusal width_checks word_checks bit_checks mask_checks first_of
large_number s least most some =
    let fine = not_outside {low = 1} {high = 8} {value = s.width} least most in
    rw fine (either (any_from (2 ^ (2 * s.width)) (s.z0 ∷ s.z1 ∷ s.z2 ∷ [])) (any_from 2 (s.c0 ∷ s.c1 ∷ s.c2 ∷ s.b ∷ []))
    (any_from (2 ^ s.width) (s.t1 ∷ s.t2 ∷ [])) (rw fine at some))
  where
    number : (p q r : Bool) → ℕ
    number p q r = cond p 21 (cond q 21 (cond r 21 0))

    either : (p q r : Bool) → (number p q r ≡ 0 → ⊥) → number p q r ≡ 21
    either true q r h = refl
    either false true r h = refl
    either false false true h = refl
    either false false false h = absurd (h refl)

-- and a selection within its bounds, whose width is not 0, passes them
pub not_refused : (s : Selection) → 1 ≤ s.width → Bounded s → plain_select_refusal s ≡ 0
unfolding plain_select_refusal width_checks word_checks bit_checks mask_checks
not_refused s least k =
    sym
    (goes 20 _ (not_outside least k.width_most)
    (goes 21 _ (one_below _ _ _ k.z0 (one_below _ _ _ k.z1 (one_below _ _ _ k.z2 (none_below _))))
    (goes 21 _ (one_below _ _ _ k.c0 (one_below _ _ _ k.c1 (one_below _ _ _ k.c2 (one_below _ _ _ k.b (none_below _)))))
    (goes 21 _ (one_below _ _ _ k.t1 (one_below _ _ _ k.t2 (none_below _))) none_applies))))

-- the list of the call with a log is that of the call without one, and 14
pub logged_parts : (s : Selection) (lent : List ℕ) → select_refusal s lent ≡ 0 → (plain_select_refusal s ≡ 0) × (28 ≤ length lent)
unfolding select_refusal plain_select_refusal
logged_parts s lent e =
    let both = passed_both (width_checks s ++ word_checks s ++ bit_checks s ++ mask_checks s) (14 when (ltb (length lent) 28) ∷ [])
    (all_numbered s) e in
    (both.0, ltb-false _ _ (passed (ltb (length lent) 28) 13 [] both.1).0)

pub told_bounded : (s : Selection) → 0 ≡ plain_select_refusal s → Bounded s
told_bounded s told = plain_bounded s (sym told)
