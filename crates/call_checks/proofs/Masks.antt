-- The checks of the masks, 10 to 12, as the code goes through them.
use mathlib.Core.Path.{◌≡◌, sym, ◌∙◌}
use mathlib.Core.Bool.{Bool, true, false}
use mathlib.Core.List.{[], ◌∷◌}
use Prim.Native.Nat.{ℕ, ◌^◌, ◌≤◌, ◌<◌}
use borrow.Author.Tests.{lt-ltb, le-ltb}
use lib.Dec.{ltb}
use Rattle.refusals.specs.Checks.{◌when◌, first_of}
use Rattle.refusals.specs.Tests.{any_from}
use Rattle.refusals.proofs.Checks.{stops, goes, none_applies}
use Rattle.refusals.proofs.Tests.{some_here, some_later, one_below, none_below}
use Rattle.lookup.specs.declared.Case.{Case}
use Rattle.lookup.specs.Case.{Q}
use Rattle.lookup.specs.Methods.{method_of}
use Rattle.lookup.specs.Refusals.{untaken, mask_checks}

-- 10, 11 and 12, from the comparisons with the sizes that `power` told
module _ (c : Case) (inputs : ℕ) (i : inputs ≡ 2 ^ c.n) where
  wide : any_from (2 ^ c.n) (c.x0 ∷ c.r1 ∷ c.r2 ∷ c.r3 ∷ []) ≡ true → 10 ≡ first_of (mask_checks c)
  unfolding mask_checks Q
  wide t = stops 10 _ t

  pub wide_x0 : inputs ≤ c.x0 → 10 ≡ first_of (mask_checks c)
  wide_x0 h = wide (some_here _ _ _ (rw i at h))

  pub wide_r1 : inputs ≤ c.r1 → 10 ≡ first_of (mask_checks c)
  wide_r1 h = wide (some_later _ _ _ (some_here _ _ _ (rw i at h)))

  pub wide_r2 : inputs ≤ c.r2 → 10 ≡ first_of (mask_checks c)
  wide_r2 h = wide (some_later _ _ _ (some_later _ _ _ (some_here _ _ _ (rw i at h))))

  pub wide_r3 : inputs ≤ c.r3 → 10 ≡ first_of (mask_checks c)
  wide_r3 h = wide (some_later _ _ _ (some_later _ _ _ (some_later _ _ _ (some_here _ _ _ (rw i at h)))))

  module _ (x0 : c.x0 < inputs) (r1 : c.r1 < inputs) (r2 : c.r2 < inputs) (r3 : c.r3 < inputs) where
    after_10 : {r : ℕ} → r ≡ first_of (11 when (any_from (2 ^ c.m) (c.s1 ∷ c.s2 ∷ [])) ∷ 12 when (untaken c) ∷ [])
        → r ≡ first_of (mask_checks c)
    unfolding mask_checks Q
    after_10 h =
        goes 10 _ (rw (← i) (one_below _ _ _ x0 (one_below _ _ _ r1 (one_below _ _ _ r2 (one_below _ _ _ r3 (none_below _)))))) h

    module _ (outputs : ℕ) (o : outputs ≡ 2 ^ c.m) where
      pub wide_s1 : outputs ≤ c.s1 → 11 ≡ first_of (mask_checks c)
      wide_s1 h = after_10 (stops 11 _ (some_here _ _ _ (rw o at h)))

      pub wide_s2 : outputs ≤ c.s2 → 11 ≡ first_of (mask_checks c)
      wide_s2 h = after_10 (stops 11 _ (some_later _ _ _ (some_here _ _ _ (rw o at h))))

      module _ (s1 : c.s1 < outputs) (s2 : c.s2 < outputs) (r : Bool) (told : r ≡ untaken c) where
        after_11 : {k : ℕ} → k ≡ first_of (12 when (untaken c) ∷ []) → k ≡ first_of (mask_checks c)
        after_11 h = after_10 (goes 11 _ (rw (← o) (one_below _ _ _ s1 (one_below _ _ _ s2 (none_below _)))) h)

        pub at_12 : r ≡ true → 12 ≡ first_of (mask_checks c)
        at_12 e = after_11 (stops 12 _ (sym told ∙ e))

        pub all_taken : r ≡ false → 0 ≡ first_of (mask_checks c)
        all_taken e = after_11 (goes 12 _ (sym told ∙ e) none_applies)

-- which of the two it is
module _ (c : Case) (most : ℕ) (told : most ≡ (method_of c.method).r3_most (2 ^ c.n)) where
  pub untaken_r3 : most < c.r3 → true ≡ untaken c
  unfolding untaken Q
  untaken_r3 h = sym (rw (← told, lt-ltb most c.r3 h))

  pub untaken_b : (b_most : ℕ) → c.r3 ≤ most → b_most ≡ (method_of c.method).b_most → ltb b_most c.b ≡ untaken c
  unfolding untaken Q
  untaken_b b_most h b_told = sym (rw (← told, le-ltb most c.r3 h, b_told))
