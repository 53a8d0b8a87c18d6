-- The rules of the leak test are sound: where one secret is changed and a rule applies, two expressions are alike before and after.
use mathlib.Core.Path.{◌≡◌, sym, ◌∙◌}
use mathlib.Core.Bool.{true, false, ◌&&◌, ◌||◌}
use mathlib.Core.Logic.{inl, inr}
use Prim.Native.Nat.{ℕ, ◌^◌, ◌<◌}
use mir.Facts.{and_yes, or_yes}
use lib.Dec.{T, eqb, ltb, eqb→eq, ltb→lt}
use lib.ListN.{length}
use Rattle.bits.specs.Xor.{◌⊕◌}
use Rattle.counting.specs.Choice.{width, change}
use Rattle.probing.specs.Expression.{Expression, mask, System, Setting, table}
use Rattle.probing.specs.Alike.{widths, Valid, Alike, EvenFor, Known}
use Rattle.probing.specs.Test.{shiftable, of_class, absent, Standing, added}
use Rattle.probing.specs.Test.{indexing, otherwise, standing, leads, covered, masked, exchangeable, unseen}
use Rattle.probing.proofs.Change.{within_change}
use Rattle.probing.proofs.Shift.{moved, kept}
use Rattle.probing.proofs.Masks.{Shows, shows}
use Rattle.probing.proofs.Exchange.{exchanged_alike}
use Rattle.probing.proofs.Cover.{replaced, evened}
use Rattle.probing.proofs.Search.{some_place_found}

-- the secret at place j, of the class, is changed from hs j to ts j
module _ (system : System) (setting : Setting) {hs ts : ℕ → ℕ} (known : Known system setting hs ts)
    {vs : ℕ → ℕ} (valid : Valid setting system.secrets vs)
    (j class : ℕ) (size : width (widths setting system.secrets) j ≡ setting.width class) (same : vs j ≡ hs j) where
  abbrev vs' : ℕ → ℕ
  vs' = change j (ts j) vs

  abbrev small : ts j < 2 ^ width (widths setting system.secrets) j
  small = known.after.each j

  -- the difference is one of two entries of a table that leads to the secret
  even_here : (n k : ℕ) → T (leads system n k j) → EvenFor (2 ^ setting.width k) (setting.tables n) (vs j ⊕ ts j)
  unfolding leads
  even_here n k t g =
      let all = and_yes (ltb n (length system.tables) && eqb (table system n).from k) (eqb (table system n).output j) t in
      let both = and_yes (ltb n (length system.tables)) (eqb (table system n).from k) all.0 in
      rw same (rw (eqb→eq (table system n).from k both.1, eqb→eq (table system n).output j all.1) at
      (known.even n (ltb→lt _ _ both.0) g))

  -- the mask rule and the table rule, for a mask i of class k
  module _ (i k : ℕ) (wide : width (widths setting system.masks) i ≡ setting.width k) (e f : Expression) (t : T (absent i f)) where
    covered_alike : (s : Standing) → ((us c : ℕ → ℕ) → Shows setting us i c s e) → T (covered system j class i k e f s)
        → Alike system setting vs vs' e f
    unfolding covered
    covered_alike added p u g =
        let both = and_yes (of_class system k e) (shiftable system j class false (mask i) f) u in
        replaced system setting known valid i k wide f t e both.0 (p vs) g
        ∙ kept system setting valid j class size (ts j) small (mask i) f both.1 g
        ∙ sym (replaced system setting known (within_change j (known.after.each j) valid) i k wide f t e both.0 (p vs') g)
    covered_alike (indexing n index) p u g =
        let all = and_yes (leads system n k j && of_class system k index) (shiftable system j class true e f) u in
        let both = and_yes (leads system n k j) (of_class system k index) all.0 in
        sym
        (moved system setting valid j class size (ts j) small true e f all.1 g
        ∙ evened system setting known valid i k wide f t n index e both.1 (p vs) (vs j ⊕ ts j) (even_here n k both.0) g)
    covered_alike otherwise p u g = absurd u

  masked_alike : (e f : Expression) → T (masked system j class e f) → Alike system setting vs vs' e f
  unfolding masked
  masked_alike e f t =
      let found = some_place_found setting system.masks _ t in
      let i = found.0 in
      let k = found.1.0 in
      let both = and_yes (absent i f) (covered system j class i k e f (standing i e)) found.1.2 in
      covered_alike i k found.1.1 e f both.0 (standing i e) (λ us c. shows setting us i c e) both.1

  pub unseen_alike : (e f : Expression) → T (unseen system j class e f) → Alike system setting vs vs' e f
  unfolding unseen
  unseen_alike e f t =
      let shifted = shiftable system j class false e f in
      let one = masked system j class e f in
      let other = masked system j class f e in
      elim (or_yes (shifted || one || other) (exchangeable system j class e f) t) [
        | inl h ↦ elim (or_yes (shifted || one) other h) [
          | inl h ↦ elim (or_yes shifted one h)
              [ inl h ↦ kept system setting valid j class size (ts j) small e f h | inr h ↦ masked_alike e f h ]
          -- an observer of f and e sees what one of e and f does
          | inr h ↦ λ observer. masked_alike f e h (λ x y. observer y x)
        ]
        | inr h ↦ exchanged_alike system setting known valid j class size (ts j) small e f h
      ]
