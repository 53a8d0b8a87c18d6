-- What the searches of the leak test find: each element of a list, a place or each place of a list, and a shift of masks of one class.
use mathlib.Core.Path.{◌≡◌, refl}
use mathlib.Core.Bool.{Bool, true, false, cond, ◌&&◌}
use mathlib.Core.Logic.{inl, inr}
use mathlib.Core.List.{List, [], ◌∷◌}
use Prim.Native.Nat.{ℕ, zero, suc, ◌^◌, ◌<◌}
use native.Mathlib.Omega.{arith}
use mir.Facts.{and_yes, or_yes}
use lib.Dec.{T, eqb, eqb→eq}
use lib.ListN.{length, get_or}
use lib.Pow.{pow_pos}
use Rattle.counting.specs.Choice.{width, Within}
use Rattle.counting.proofs.Choice.{within_none}
use Rattle.probing.specs.Expression.{Setting}
use Rattle.probing.specs.Alike.{widths}
use Rattle.probing.specs.Search.{some_shift, some_place, each_place, every}
use Rattle.probing.proofs.Offset.{shifting}

pub every_passes : {A : Type 0} (xs : List A) (test : A → Bool) → T (every test xs) → (i : ℕ) (d : A) → i < length xs
    → T (test (get_or xs i d))
unfolding every
every_passes [] test t i d h = absurd (omega arith)
every_passes (x ∷ xs) test t zero d h = (and_yes (test x) (every test xs) t).0
every_passes (x ∷ xs) test t (suc i) d h = every_passes xs test (and_yes (test x) (every test xs) t).1 i d (omega arith)

module _ (setting : Setting) where
  -- a place and a class that is the place's and passes the test
  abbrev pub Place : (classes : List ℕ) → (ℕ → ℕ → Bool) → ℕ → Type 0
  Place classes test i = (k : ℕ) × (width (widths setting classes) i ≡ setting.width k) × T (test i k)

  pub some_place_found : (classes : List ℕ) (test : ℕ → ℕ → Bool) → T (some_place classes test) → (i : ℕ) × Place classes test i
  unfolding some_place width
  some_place_found [] test t = absurd t
  some_place_found (k ∷ ks) test t =
      elim (or_yes (test 0 k) (some_place ks (λ i. test (suc i))) t)
      [ inl h ↦ (0, (k, refl, h)) | inr h ↦ let found = some_place_found ks (λ i. test (suc i)) h in (suc found.0, found.1) ]

  pub each_place_passes : (classes : List ℕ) (test : ℕ → ℕ → Bool) → T (each_place classes test) → (j : ℕ) → j < length classes
      → Place classes test j
  unfolding each_place width
  each_place_passes [] test t j h = absurd (omega arith)
  each_place_passes (k ∷ ks) test t zero h = (k, refl, (and_yes (test 0 k) (each_place ks (λ i. test (suc i))) t).0)
  each_place_passes (k ∷ ks) test t (suc j) h =
      each_place_passes ks (λ i. test (suc i)) (and_yes (test 0 k) (each_place ks (λ i. test (suc i))) t).1 j (omega arith)

  -- every shift that is tried stays within the masks' widths
  module _ (class d : ℕ) (h : d < 2 ^ setting.width class) where
    abbrev pub Shift : (masks : List ℕ) → (List Bool → Bool) → Type 0
    Shift masks test = (shift : List Bool) × Within (widths setting masks) (shifting shift d) × T (test shift)

    longer : (k : ℕ) (ks : List ℕ) (b : Bool) (test : List Bool → Bool) → cond b d 0 < 2 ^ setting.width k
        → Shift ks (λ shift. test (b ∷ shift)) → Shift (k ∷ ks) test
    unfolding width
    longer k ks b test l found = (b ∷ found.0, record { each = elim [ zero ↦ l | suc i ↦ found.1.each i ] }, found.2)

    pub some_shift_found : (masks : List ℕ) (test : List Bool → Bool) → T (some_shift class masks test) → Shift masks test
    unfolding some_shift
    some_shift_found [] test t = ([], within_none, t)
    some_shift_found (k ∷ ks) test t =
        elim (or_yes (some_shift class ks (λ shift. test (false ∷ shift)))
        (eqb k class && some_shift class ks (λ shift. test (true ∷ shift))) t) [
          | inl l ↦ longer k ks false test (pow_pos _) (some_shift_found ks (λ shift. test (false ∷ shift)) l)
          | inr l ↦
              let both = and_yes (eqb k class) (some_shift class ks (λ shift. test (true ∷ shift))) l in
              longer k ks true test (rw (eqb→eq k class both.0) h) (some_shift_found ks (λ shift. test (true ∷ shift)) both.1)
        ]
