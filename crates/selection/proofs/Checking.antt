-- The checks of a selection, 20, 21 and 14, as the code goes through them, and what an accepted one has passed.
use mathlib.Core.Path.{◌≡◌, refl, sym, ◌∙◌}
use mathlib.Core.Bool.{Bool, true, false}
use mathlib.Core.List.{List, [], ◌∷◌, ◌++◌}
use Prim.Native.Nat.{ℕ, ◌*◌, ◌^◌, ◌≤◌, ◌<◌}
use native.Mathlib.Omega.{arith}
use mir.Syntax.{w32}
use mir.Val.{Fits}
use borrow.Author.Tests.{lt-ltb, le-ltb}
use lib.Dec.{ltb}
use lib.ListN.{length}
use Rattle.refusals.specs.Checks.{◌when◌, first_of}
use Rattle.refusals.specs.Tests.{outside, any_from}
use Rattle.refusals.proofs.Checks.{stops, goes, none_applies, stops_both, goes_both, numbered}
use Rattle.refusals.proofs.Tests.{some_here, some_later, one_below, none_below, inside}
use Rattle.halves.specs.declared.Selection.{Selection}
use Rattle.selection.specs.Select.{width_checks, word_checks, bit_checks, mask_checks, plain_select_refusal, select_refusal}

module _ (s : Selection) where
  -- no check has the number 0
  word_numbered : numbered (word_checks s) ≡ true
  unfolding word_checks numbered
  word_numbered = refl

  both_numbered : numbered (word_checks s ++ bit_checks s) ≡ true
  unfolding word_checks bit_checks numbered
  both_numbered = refl

  pub all_numbered : numbered (width_checks s ++ word_checks s ++ bit_checks s ++ mask_checks s) ≡ true
  unfolding width_checks word_checks bit_checks mask_checks numbered
  all_numbered = refl

  -- the word's shares, by the size that `power` told
  module _ (words : ℕ) (told : words ≡ 2 ^ (2 * s.width)) where
    some_word : any_from (2 ^ (2 * s.width)) (s.z0 ∷ s.z1 ∷ s.z2 ∷ []) ≡ true → 21 ≡ first_of (word_checks s)
    unfolding word_checks
    some_word t = stops 21 _ t

    pub wide_z0 : words ≤ s.z0 → 21 ≡ first_of (word_checks s)
    wide_z0 h = some_word (some_here _ _ _ (rw told at h))

    pub wide_z1 : words ≤ s.z1 → 21 ≡ first_of (word_checks s)
    wide_z1 h = some_word (some_later _ _ _ (some_here _ _ _ (rw told at h)))

    pub wide_z2 : words ≤ s.z2 → 21 ≡ first_of (word_checks s)
    wide_z2 h = some_word (some_later _ _ _ (some_later _ _ _ (some_here _ _ _ (rw told at h))))

    pub narrow_words : s.z0 < words → s.z1 < words → s.z2 < words → 0 ≡ first_of (word_checks s)
    unfolding word_checks
    narrow_words h k l = goes 21 _ (rw (← told) (one_below _ _ _ h (one_below _ _ _ k (one_below _ _ _ l (none_below _))))) none_applies

  -- the bit's shares and b
  some_bit : any_from 2 (s.c0 ∷ s.c1 ∷ s.c2 ∷ s.b ∷ []) ≡ true → 21 ≡ first_of (bit_checks s)
  unfolding bit_checks
  some_bit t = stops 21 _ t

  -- by the number that a barrier handed back
  module _ (two : ℕ) (told : two ≡ 2) where
    pub two_fits : Fits w32 two
    two_fits = record { fits = omega (arith, told) }

    pub wide_c0 : two ≤ s.c0 → 21 ≡ first_of (bit_checks s)
    wide_c0 h = some_bit (some_here _ _ _ (rw told at h))

    pub wide_c1 : two ≤ s.c1 → 21 ≡ first_of (bit_checks s)
    wide_c1 h = some_bit (some_later _ _ _ (some_here _ _ _ (rw told at h)))

    pub wide_c2 : two ≤ s.c2 → 21 ≡ first_of (bit_checks s)
    wide_c2 h = some_bit (some_later _ _ _ (some_later _ _ _ (some_here _ _ _ (rw told at h))))

    pub wide_b : two ≤ s.b → 21 ≡ first_of (bit_checks s)
    wide_b h = some_bit (some_later _ _ _ (some_later _ _ _ (some_later _ _ _ (some_here _ _ _ (rw told at h)))))

    pub narrow_bits : s.c0 < two → s.c1 < two → s.c2 < two → s.b < two → 0 ≡ first_of (bit_checks s)
    unfolding bit_checks
    narrow_bits h k l m =
        goes 21 _ (rw (← told) (one_below _ _ _ h (one_below _ _ _ k (one_below _ _ _ l (one_below _ _ _ m (none_below _)))))) none_applies

  -- the masks of a half, by the size that `power` told
  module _ (halves : ℕ) (told : halves ≡ 2 ^ s.width) where
    some_mask : any_from (2 ^ s.width) (s.t1 ∷ s.t2 ∷ []) ≡ true → 21 ≡ first_of (mask_checks s)
    unfolding mask_checks
    some_mask t = stops 21 _ t

    pub wide_t1 : halves ≤ s.t1 → 21 ≡ first_of (mask_checks s)
    wide_t1 h = some_mask (some_here _ _ _ (rw told at h))

    pub wide_t2 : halves ≤ s.t2 → 21 ≡ first_of (mask_checks s)
    wide_t2 h = some_mask (some_later _ _ _ (some_here _ _ _ (rw told at h)))

    pub narrow_masks : s.t1 < halves → s.t2 < halves → 0 ≡ first_of (mask_checks s)
    unfolding mask_checks
    narrow_masks h k = goes 21 _ (rw (← told) (one_below _ _ _ h (one_below _ _ _ k (none_below _)))) none_applies

  -- 20, then the three parts of 21
  module _ (r : Bool) (told : r ≡ outside 1 8 s.width) where
    pub at_20 : r ≡ true → 20 ≡ plain_select_refusal s
    unfolding plain_select_refusal width_checks
    at_20 t = stops 20 _ (sym told ∙ t)

    pub width_small : r ≡ false → s.width ≤ 8
    width_small f = (inside 1 8 s.width (sym told ∙ f)).1

    module _ (f : r ≡ false) where
      behind_20 : {p : ℕ} → p ≡ first_of (word_checks s ++ bit_checks s ++ mask_checks s) → p ≡ plain_select_refusal s
      unfolding plain_select_refusal width_checks
      behind_20 e = goes 20 _ (sym told ∙ f) e

      pub at_words : (k : ℕ) → k ≡ first_of (word_checks s) → (k ≡ 0 → ⊥) → k ≡ plain_select_refusal s
      at_words k of_words h = behind_20 (stops_both _ (mask_checks s) (stops_both (word_checks s) (bit_checks s) of_words h) h)

      module _ (of_words : 0 ≡ first_of (word_checks s)) where
        bits_next : {j : ℕ} → j ≡ first_of (bit_checks s) → j ≡ first_of (word_checks s ++ bit_checks s)
        bits_next of_bits = goes_both (word_checks s) (bit_checks s) word_numbered of_words of_bits

        pub at_bits : (j : ℕ) → j ≡ first_of (bit_checks s) → (j ≡ 0 → ⊥) → j ≡ plain_select_refusal s
        at_bits j of_bits h = behind_20 (stops_both _ (mask_checks s) (bits_next of_bits) h)

        pub at_masks : (p : ℕ) → 0 ≡ first_of (bit_checks s) → p ≡ first_of (mask_checks s) → p ≡ plain_select_refusal s
        at_masks p of_bits e = behind_20 (goes_both _ (mask_checks s) both_numbered (bits_next of_bits) e)

  -- then 14
  module _ (lent : List ℕ) where
    pub at_plain : (k : ℕ) → k ≡ plain_select_refusal s → (k ≡ 0 → ⊥) → k ≡ select_refusal s lent
    unfolding plain_select_refusal select_refusal
    at_plain k told h = stops_both _ _ told h

    module _ (told : 0 ≡ plain_select_refusal s) where
      behind_21 : {p : ℕ} → p ≡ first_of (14 when (ltb (length lent) 28) ∷ []) → p ≡ select_refusal s lent
      unfolding plain_select_refusal select_refusal
      behind_21 e = goes_both (width_checks s ++ word_checks s ++ bit_checks s ++ mask_checks s) _ all_numbered told e

      pub at_14 : length lent < 28 → 14 ≡ select_refusal s lent
      at_14 h = behind_21 (stops 14 _ (lt-ltb _ _ h))

      pub at_none : 28 ≤ length lent → 0 ≡ select_refusal s lent
      at_none h = behind_21 (goes 14 _ (le-ltb _ _ h) none_applies)

-- what the three checks of 21 are proved by
pub ruleset word_laws = (wide_z0, wide_z1, wide_z2, narrow_words)

pub ruleset bit_laws = (two_fits, wide_c0, wide_c1, wide_c2, wide_b, narrow_bits)

pub ruleset mask_laws = (wide_t1, wide_t2, narrow_masks)
