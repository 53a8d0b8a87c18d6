-- The promises of specs/Promises.antt, proved.
use mathlib.Core.Path.{◌≡◌, refl, sym}
use mathlib.Core.Bool.{Bool, true, false}
use mathlib.Core.List.{[], ◌∷◌}
use Prim.Native.Nat.{◌^◌, ◌≤◌}
use native.Mathlib.Omega.{arith}
use Rattle.refusals.specs.Checks.{◌when◌, first_of}
use Rattle.refusals.specs.Tests.{outside, any_from}
use Rattle.refusals.proofs.Tests.{inside}
use Rattle.table.specs.Refusals.{table_checks}
use Rattle.wide_table.specs.Wide.{wide, method_and_table, wide_refusal}
use Rattle.wide_table.specs.Promises.{WideTwoToSix, WideSix}
use Rattle.wide_table.proofs.Refusing.{too_large, at_6}

-- the checks 2 to 7, of which 6 applies where 4 does not
two_to_six : (k a b l s f : Bool) → (b ≡ false → s ≡ true)
    → (2 ≤ first_of (2 when k ∷ 3 when a ∷ 4 when b ∷ 5 when l ∷ 6 when s ∷ 7 when f ∷ []))
    × (first_of (2 when k ∷ 3 when a ∷ 4 when b ∷ 5 when l ∷ 6 when s ∷ 7 when f ∷ []) ≤ 6)
unfolding first_of
two_to_six true a b l s f h = (omega arith, omega arith)
two_to_six false true b l s f h = (omega arith, omega arith)
two_to_six false false true l s f h = (omega arith, omega arith)
two_to_six false false false true s f h = (omega arith, omega arith)
two_to_six false false false false s f h = rw (h refl) (omega arith, omega arith)

pub wide_two_to_six : WideTwoToSix
unfolding WideTwoToSix wide_refusal wide method_and_table table_checks
wide_two_to_six method n m table = (λ w. rw w (two_to_six _ _ (outside 1 8 m) _ (any_from (2 ^ m) table) _ (λ e. too_large m table (inside 1 8 m e).1 w)), λ w. rw w)

pub wide_six : WideSix
unfolding WideSix wide
wide_six method n m table w method_Known input output long =
    sym (at_6 method n m table true (sym w) refl true (sym method_Known) refl false (sym input) refl false (sym output) refl (2 ^ n) refl long)
