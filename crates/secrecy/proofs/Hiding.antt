-- What is proved of each method's secrecy: its masks are drawn in their widths, all that are in their widths are drawn, its rows pass the leak
-- test, and they show its values.
use mathlib.Core.Path.{◌≡◌, refl, sym}
use mathlib.Core.List.{List, [], ◌∷◌, map}
use Prim.Native.Nat.{ℕ, suc, ◌^◌, ◌≤◌, ◌<◌}
use native.Mathlib.Nat.{lt_of_lt_of_le, le_refl}
use native.Mathlib.Omega.{arith}
use lib.Dec.{T}
use lib.ListN.{length, drop}
use lib.Pow.{pow_mono, suc_ones}
use Rattle.counting.specs.Choice.{width, Within}
use Rattle.counting.proofs.Choice.{within_none, within_more}
use Rattle.counting.proofs.Append.{appended}
use Rattle.probing.specs.Expression.{Setting}
use Rattle.probing.specs.Test.{all_fine}
use Rattle.lookup.specs.Layout.{Layout}
use Rattle.lookup.specs.Method.{Method, class_width}
use Rattle.lookup.specs.Method2.{method_2}
use Rattle.lookup.specs.Method3.{method_3}
use Rattle.lookup.specs.Method5.{method_5}
use Rattle.lookup.specs.Methods.{methods}
use Rattle.lookup.proofs.Each.{Each, none, more}
use Rattle.lookup.proofs.Layouts.{SameRows}
use Rattle.secrecy.specs.Count.{single, chosen_case}
use Rattle.secrecy.specs.Expressions.{CallPlaces, Shown, shown_2, shown_3, shown_5, system, alone, setting, secrets}
use Rattle.secrecy.proofs.Fine.{rows_at, fine_2, fine_3, fine_5}
use Rattle.secrecy.proofs.Shown.{Stands, row_value, expression_value, shows_2, shows_3, shows_5}

-- a single call's masks, as a method draws them
pub record Drawn (method : Method) (n m : ℕ) (c : ℕ → ℕ) : Type 0 where
  pub r1 : c 0 < 2 ^ n
  pub r2 : c 1 < 2 ^ n
  pub r3 : c 2 < 2 ^ n
  pub r3_taken : c 2 ≤ method.r3_most (2 ^ n)
  pub s1 : c 3 < 2 ^ m
  pub s2 : c 4 < 2 ^ m
  pub b : c 5 ≤ method.b_most

-- the classes of its six masks begin with the input's, of r1 and r2
pub record Hiding (method : Method) : Type 0 where
  pub six : length method.mask_classes ≡ 6
  pub inputs : 0 ∷ 0 ∷ drop 2 method.mask_classes ≡ method.mask_classes
  pub rows : CallPlaces → Layout Shown
  pub fine : (a a' : ℕ) → T (all_fine (system method.mask_classes) (rows_at (rows (alone single)) a) (rows_at (rows (alone single)) a'))
  pub drawn : (n m : ℕ) (c : ℕ → ℕ) → Within (map (class_width n m) method.mask_classes) c → Drawn method n m c
  pub whole : (n m : ℕ) (c : ℕ → ℕ) → Drawn method n m c → Within (map (class_width n m) method.mask_classes) (appended 6 c (λ i. 0))
  pub shown : (s : CallPlaces) (number n m x : ℕ) (table : List ℕ) (setting : Setting) (secrets masks : ℕ → ℕ)
      → Stands s method n x table setting secrets masks
      → SameRows (row_value (chosen_case s.masks number n m x masks) table) (expression_value setting secrets masks) (2 ^ n)
      method.layout (rows s)

-- a method takes every r3 and every b of its class, as large as the input's width at most: what is drawn is within the widths, and all within
-- them is drawn
pub record Classes (method : Method) (third bit : ℕ) : Type 0 where
  pub thirds : (n m : ℕ) → 2 ^ class_width n m third ≡ suc (method.r3_most (2 ^ n))
  pub bits : (n m : ℕ) → 2 ^ class_width n m bit ≡ suc method.b_most
  pub narrow : (n m : ℕ) → class_width n m third ≤ n

module _ (method : Method) (third bit : ℕ) (k : Classes method third bit) (n m : ℕ) (c : ℕ → ℕ) where
  pub drawn_with : Within (map (class_width n m) (0 ∷ 0 ∷ third ∷ 1 ∷ 1 ∷ bit ∷ [])) c → Drawn method n m c
  unfolding width
  drawn_with w =
      record {
        r1 = w.each 0;
        r2 = w.each 1;
        r3 = lt_of_lt_of_le (w.each 2) (pow_mono (k.narrow n m));
        r3_taken = omega (arith, w.each 2, k.thirds n m);
        s1 = w.each 3;
        s2 = w.each 4;
        b = omega (arith, w.each 5, k.bits n m);
      }

  pub whole_with : Drawn method n m c → Within (map (class_width n m) (0 ∷ 0 ∷ third ∷ 1 ∷ 1 ∷ bit ∷ [])) (appended 6 c (λ i. 0))
  whole_with d =
      within_more d.r1 (within_more d.r2 (within_more (omega (arith, d.r3_taken, k.thirds n m)) (within_more d.s1 (within_more d.s2
      (within_more (omega (arith, d.b, k.bits n m)) within_none)))))

pub classes_2 : Classes method_2 0 2
classes_2 = record { thirds = λ n m. sym (suc_ones n); bits = λ n m. refl; narrow = λ n m. le_refl n }

pub classes_3 : Classes method_3 0 3
classes_3 = record { thirds = λ n m. sym (suc_ones n); bits = λ n m. refl; narrow = λ n m. le_refl n }

pub classes_5 : Classes method_5 2 2
classes_5 = record { thirds = λ n m. refl; bits = λ n m. refl; narrow = λ n m. omega arith }

abbrev pub hiding_2 : Hiding method_2
hiding_2 =
    record {
      six = refl;
      inputs = refl;
      rows = shown_2;
      fine = fine_2;
      drawn = drawn_with method_2 0 2 classes_2;
      whole = whole_with method_2 0 2 classes_2;
      shown = shows_2;
    }

abbrev pub hiding_3 : Hiding method_3
hiding_3 =
    record {
      six = refl;
      inputs = refl;
      rows = shown_3;
      fine = fine_3;
      drawn = drawn_with method_3 0 3 classes_3;
      whole = whole_with method_3 0 3 classes_3;
      shown = shows_3;
    }

abbrev pub hiding_5 : Hiding method_5
hiding_5 =
    record {
      six = refl;
      inputs = refl;
      rows = shown_5;
      fine = fine_5;
      drawn = drawn_with method_5 2 2 classes_5;
      whole = whole_with method_5 2 2 classes_5;
      shown = shows_5;
    }

pub hiding : Each Hiding methods
hiding = more hiding_2 (more hiding_3 (more hiding_5 none))

-- a single call's masks and secrets stand where its rows say
pub stands_alone : (method : Method) (n m x : ℕ) (table : List ℕ) (c : ℕ → ℕ) → x < 2 ^ n → Drawn method n m c
    → Stands (alone single) method n x table (setting n m table) (secrets table x) c
stands_alone method n m x table c h d =
    record {
      class = refl;
      bit = refl;
      entries = λ z. refl;
      input = refl;
      output = refl;
      small = h;
      r1 = d.r1;
      r2 = d.r2;
      r3 = d.r3;
      b = d.b;
    }
