-- A field or a line in front of the input.
use mathlib.Core.Path.{◌≡◌, refl, sym}
use mathlib.Core.Bool.{Bool, true, false, not, cond, true≢false}
use mathlib.Core.List.{List, [], ◌∷◌}
use Prim.Native.Nat.{ℕ, zero, suc, ◌+◌, ◌≤◌, ◌<◌}
use native.Mathlib.Omega.{arith}
use borrow.Author.Tests.{eq-eqb, ne_eqb, eqb-true}
use lib.Dec.{eqb}
use lib.ListN.{length, get_or, take, length-take, get_or-eq_default}
use lib.Seq.{length-take-le}
use Rattle.std.specs.Prelude.{Option, Some, None}
use Rattle.field.specs.Field.{field_of}
use Rattle.field.proofs.Reading.{other_width, number_found}
use Rattle.case_sheet.specs.declared.Edition.{Edition}
use Rattle.case_sheet.specs.Sheet.{item, size}

-- a line feed that was found stands in the input
pub feed_there : (bytes : List ℕ) (i : ℕ) → get_or bytes i 0 ≡ 10 → i < length bytes
feed_there [] i e = absurd (omega arith)
feed_there (byte ∷ bytes) zero e = omega arith
feed_there (byte ∷ bytes) (suc i) e = omega (arith, feed_there bytes i e)

module _ (edition : Edition) where
  -- too few bytes
  pub short : (line : Bool) (bytes : List ℕ) (least : ℕ) → least ≡ size edition line → length bytes < least → None ≡ item edition line bytes
  unfolding item size
  short true bytes least e h = rw (get_or-eq_default bytes 0 {n = edition.columns} (omega arith))
  short false bytes least e h =
      other_width edition.columns edition.most (take edition.columns bytes) (λ q. omega (arith, length-take edition.columns bytes))

  -- a field alone
  pub alone : {r : Option ℕ} (line : Bool) (bytes : List ℕ) → line ≡ false
      → r ≡ field_of edition.columns edition.most (take edition.columns bytes) → r ≡ item edition line bytes
  unfolding item
  alone true bytes h e = absurd (true≢false h)
  alone false bytes h e = e

  -- a line, without a line feed or with it
  pub no_feed : (line : Bool) (bytes : List ℕ) → (get_or bytes edition.columns 0 ≡ 10 → ⊥) → line ≡ true
      → None ≡ item edition line bytes
  unfolding item
  no_feed true bytes n h = rw (ne_eqb (get_or bytes edition.columns 0) 10 n)
  no_feed false bytes n h = absurd (true≢false (sym h))

  pub ended : {r : Option ℕ} (line : Bool) (bytes : List ℕ) → get_or bytes edition.columns 0 ≡ 10
      → r ≡ field_of edition.columns edition.most (take edition.columns bytes) → r ≡ item edition line bytes
  unfolding item
  ended true bytes f e = rw (eq-eqb (get_or bytes edition.columns 0) 10 f) e
  ended false bytes f e = e

  columns_within : (line : Bool) (bytes : List ℕ) (least : ℕ) → least ≡ size edition line → least ≤ length bytes
      → edition.columns ≤ length bytes
  unfolding size
  columns_within true bytes least e h = omega arith
  columns_within false bytes least e h = omega arith

  pub columns_lent : (line : Bool) (bytes : List ℕ) (least : ℕ) → least ≡ size edition line → least ≤ length bytes
      → edition.columns ≡ length (take edition.columns bytes)
  columns_lent line bytes least e h = sym (length-take-le edition.columns bytes (columns_within line bytes least e h))

  pub feed_within : (line : Bool) (bytes : List ℕ) (least : ℕ) → least ≡ size edition line → least ≤ length bytes → line ≡ true
      → edition.columns < length bytes
  unfolding size
  feed_within true bytes least e h q = omega arith
  feed_within false bytes least e h q = absurd (true≢false (sym q))

  -- a number that was found: the input has its bytes, and it is not too large
  pub item_found : (line : Bool) (bytes : List ℕ) (value : ℕ) → item edition line bytes ≡ Some value
      → (size edition line ≤ length bytes) × (value ≤ edition.most)
  unfolding item size
  item_found false bytes value e =
      let known = number_found edition.columns edition.most (take edition.columns bytes) value e in
      (omega (arith, length-take edition.columns bytes, known.0), known.1)
  item_found true bytes value e = item_found_by_cases (eqb (get_or bytes edition.columns 0) 10) refl e
    where
      item_found_by_cases : (t : Bool) → eqb (get_or bytes edition.columns 0) 10 ≡ t
          → cond (not t) None (field_of edition.columns edition.most (take edition.columns bytes)) ≡ Some value
          → (edition.columns + 1 ≤ length bytes) × (value ≤ edition.most)
      item_found_by_cases false q e = let z : ◌≡◌ {A = ℕ} 0 1 = cc in absurd (omega arith)
      item_found_by_cases true q e = (
        omega (arith, feed_there bytes edition.columns (eqb-true _ _ q)),
        (number_found edition.columns edition.most (take edition.columns bytes) value e).1,
      )
