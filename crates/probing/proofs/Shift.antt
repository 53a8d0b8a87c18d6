-- The shift rule is sound: where one secret is changed and a shift keeps two expressions, they are alike before and after; and what is seen
-- where the shift puts one of them off.
use mathlib.Core.Path.{◌≡◌, sym, ap₂, ◌∙◌}
use mathlib.Core.Bool.{Bool, false, cond}
use Prim.Native.Nat.{ℕ, ◌^◌, ◌<◌}
use mir.Facts.{and_yes}
use lib.Dec.{T}
use Rattle.bits.specs.Xor.{◌⊕◌}
use Rattle.bits.proofs.Xor.{below, zero_r}
use Rattle.counting.specs.Choice.{width, change}
use Rattle.counting.proofs.Over.{over_ext, over_shift}
use Rattle.probing.specs.Expression.{Expression, System, Setting, value}
use Rattle.probing.specs.Alike.{widths, Valid, seen, Alike}
use Rattle.probing.specs.Test.{off_by, shiftable}
use Rattle.probing.proofs.Offset.{off_by_value}
use Rattle.probing.proofs.Search.{some_shift_found}

-- the secret at place j, of the class, is changed to v
module _ (system : System) (setting : Setting) {vs : ℕ → ℕ} (valid : Valid setting system.secrets vs)
    (j class : ℕ) (size : width (widths setting system.secrets) j ≡ setting.width class)
    (v : ℕ) (small : v < 2 ^ width (widths setting system.secrets) j) where
  abbrev vs' : ℕ → ℕ
  vs' = change j v vs

  -- some shift keeps f, and keeps e or puts it off by the difference
  pub moved : (put_off : Bool) (e f : Expression) → T (shiftable system j class put_off e f) → (g : ℕ → ℕ → ℕ)
      → seen system setting vs' g e f ≡ seen system setting vs (λ x y. g (x ⊕ cond put_off (vs j ⊕ v) 0) y) e f
  unfolding shiftable
  moved put_off e f t g =
      let found = some_shift_found setting class (vs j ⊕ v) (rw (← size) (below _ (valid.each j) small)) system.masks _ t in
      let both = and_yes (off_by j found.0 put_off e) (off_by j found.0 false f) found.2 in
      let value_of_lem = off_by_value setting j found.0 vs v in
      sym (over_shift _ (λ c. g (value setting vs' c e) (value setting vs' c f)) _ found.1)
      ∙ over_ext _ (λ c _. ap₂ g (value_of_lem c put_off e both.0) (value_of_lem c false f both.1 ∙ zero_r _))

  pub kept : (e f : Expression) → T (shiftable system j class false e f) → Alike system setting vs vs' e f
  kept e f t g = sym (moved false e f t g ∙ simp zero_r)
