-- The refusal of a wide table, as the code finds it and as the calls' lists of checks have it.
use mathlib.Core.Path.{◌≡◌, refl, sym, ap, ◌∙◌}
use mathlib.Core.Bool.{Bool, true, false, not, cond}
use mathlib.Core.List.{List, ◌++◌, map}
use Rattle.std.proofs.lemmas.List.{map-id}
use Prim.Native.Nat.{ℕ, ◌^◌, ◌≤◌, ◌<◌}
use native.Mathlib.Omega.{arith}
use borrow.Author.Tests.{not-true, not-false}
use lib.ListN.{length}
use lib.Pow.{pow_mono}
use Rattle.refusals.specs.Checks.{Check, first_of}
use Rattle.refusals.specs.Tests.{outside, any_from}
use Rattle.refusals.proofs.Checks.{stops, goes, stops_both, passed}
use Rattle.refusals.proofs.Tests.{any_less, inside}
use Rattle.table.specs.Refusals.{table_refusal}
use Rattle.table.proofs.Refusals.{at_3 as table_3, at_4 as table_4, at_5 as table_5, at_6 as table_6, table_accepted}
use Rattle.table.proofs.Balanced.{none_from}
use Rattle.lookup.specs.Methods.{known}
use Rattle.wide_table.specs.Wide.{wide, method_and_table, wide_refusal}

-- an entry above 255 is 2^m or more for every m that 4 lets in
pub too_large : (m : ℕ) (table : List ℕ) → m ≤ 8 → any_from 256 table ≡ true → any_from (2 ^ m) table ≡ true
too_large m table h w =
    let most : 2 ^ m ≤ 2 ^ 8 = pow_mono h in
    any_less 256 (2 ^ m) table (omega arith) w

-- a width that is let in leaves room for a shift
pub power_known : (n : ℕ) (t : Bool) → t ≡ outside 1 8 n → t ≡ false → n < 32
power_known n t e h = omega (arith, (inside 1 8 n (sym e ∙ h)).1)

-- what the look for such an entry told
pub told_wide : (table : List ℕ) (w : Bool) → w ≡ any_from 256 (map (λ x. x) table) → w ≡ any_from 256 table
told_wide table w e = e ∙ ap (any_from 256) (map-id table)

module _ (method n m : ℕ) (table : List ℕ) (w : Bool) (looked : w ≡ any_from 256 table) where
  pub at_none : not w ≡ true → 0 ≡ wide_refusal method n m table
  unfolding wide_refusal wide
  at_none h = rw (sym looked ∙ not-true w h)

  module _ (some : not w ≡ false) where
    is_wide : any_from 256 table ≡ true
    is_wide = sym looked ∙ not-false w some

    refused : {k : ℕ} → k ≡ first_of (method_and_table method n m table) → k ≡ wide_refusal method n m table
    unfolding wide_refusal wide
    refused e = rw is_wide e

    module _ (s : Bool) (asked : s ≡ known method) where
      pub at_2 : not s ≡ true → 2 ≡ wide_refusal method n m table
      unfolding method_and_table
      at_2 h = refused (stops 2 _ (rw (sym asked) h))

      module _ (taken : not s ≡ false) where
        behind_2 : {k : ℕ} → k ≡ table_refusal n m table → k ≡ wide_refusal method n m table
        unfolding method_and_table table_refusal
        behind_2 e = refused (goes 2 _ (rw (sym asked) taken) e)

        pub at_3 : (t : Bool) → t ≡ outside 1 8 n → t ≡ true → 3 ≡ wide_refusal method n m table
        at_3 t e h = behind_2 (table_3 n m table (sym e ∙ h))

        module _ (t : Bool) (input : t ≡ outside 1 8 n) (narrow_in : t ≡ false) (u : Bool) (output : u ≡ outside 1 8 m) where
          pub at_4 : u ≡ true → 4 ≡ wide_refusal method n m table
          at_4 h = behind_2 (table_4 n m table (sym input ∙ narrow_in) (sym output ∙ h))

          module _ (narrow_out : u ≡ false) (size : ℕ) (power : size ≡ 2 ^ n) where
            pub at_5 : (length table ≡ size → ⊥) → 5 ≡ wide_refusal method n m table
            at_5 h = behind_2 (table_5 n m table (sym input ∙ narrow_in) (sym output ∙ narrow_out) (λ e. h (e ∙ sym power)))

            pub at_6 : length table ≡ size → 6 ≡ wide_refusal method n m table
            at_6 h =
                behind_2
                (table_6 n m table (sym input ∙ narrow_in) (sym output ∙ narrow_out) (h ∙ power)
                (too_large m table (inside 1 8 m (sym output ∙ narrow_out)).1 is_wide))

-- FOR THE CALLERS
module _ (method n m : ℕ) (table : List ℕ) where
  -- where nothing is refused, no entry is wide
  pub none_wide : wide_refusal method n m table ≡ 0 → wide table ≡ false
  unfolding wide_refusal method_and_table wide table_refusal
  none_wide e = none_wide_by_cases (any_from 256 table) refl e
    where
      none_wide_by_cases : (t : Bool) → any_from 256 table ≡ t → cond t (first_of (method_and_table method n m table)) 0 ≡ 0 → t ≡ false
      none_wide_by_cases false q z = refl
      none_wide_by_cases true q z =
          let known_table = table_accepted n m table (passed _ 1 _ z).1 in
          sym (too_large m table known_table.output_most q) ∙ none_from (2 ^ m) table known_table.small

  -- what refuses a wide table is what the list of checks refuses it with, whatever stands behind 7
  pub wide_first : (behind : List Check) → (wide_refusal method n m table ≡ 0 → ⊥)
      → wide_refusal method n m table ≡ first_of (method_and_table method n m table ++ behind)
  unfolding wide_refusal
  wide_first behind h = wide_first_by_cases (wide table) refl h
    where
      wide_first_by_cases : (t : Bool) → wide table ≡ t → (cond t (first_of (method_and_table method n m table)) 0 ≡ 0 → ⊥)
          → cond t (first_of (method_and_table method n m table)) 0 ≡ first_of (method_and_table method n m table ++ behind)
      wide_first_by_cases true q z = stops_both (method_and_table method n m table) behind refl z
      wide_first_by_cases false q z = absurd (z refl)
