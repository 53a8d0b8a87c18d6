-- A mask that is absent from an expression may be changed freely; and what a sum shows as a mask changes, from how the mask stands in it.
use mathlib.Core.Path.{◌≡◌, refl, sym, ap, ap₂, ◌∙◌}
use mathlib.Core.Bool.{Bool, true, false, cond}
use Prim.Native.Nat.{ℕ}
use borrow.Author.Tests.{eqb-true}
use mir.Facts.{and_yes}
use lib.Dec.{T, eqb}
use Rattle.bits.specs.Xor.{◌⊕◌}
use Rattle.bits.proofs.Xor.{xors, assoc, comm, zero_r}
use Rattle.counting.specs.Choice.{change}
use Rattle.counting.proofs.Choice.{change_at, change_same}
use Rattle.probing.specs.Expression.{Expression, secret, mask, number, ◌⊞◌, lookup, differ, half, Setting, value}
use Rattle.probing.specs.Test.{absent, Standing, added, indexing, otherwise, looked_up, standing}
use Rattle.probing.proofs.Bool.{not_false}
use Rattle.probing.proofs.Change.{changed}

module _ (setting : Setting) (vs : ℕ → ℕ) (i : ℕ) (c : ℕ → ℕ) where
  -- the value with the mask changed
  abbrev at : Expression → ℕ → ℕ
  at e r = value setting vs (change i r c) e

  pub absent_value : (r : ℕ) (e : Expression) → T (absent i e) → at e r ≡ value setting vs c e
  unfolding value absent
  absent_value r (secret j) t = refl
  absent_value r (mask k) t = changed i r c k ∙ rw (not_false (eqb k i) t)
  absent_value r (number class a) t = refl
  absent_value r (e ⊞ f) t =
      let both = and_yes (absent i e) (absent i f) t in
      ap₂ ◌⊕◌ (absent_value r e both.0) (absent_value r f both.1)
  absent_value r (lookup n e) t = ap (setting.tables n) (absent_value r e t)
  absent_value r (differ e f) t =
      let both = and_yes (absent i e) (absent i f) t in
      ap₂ (λ u v. cond (eqb u v) 0 1) (absent_value r e both.0) (absent_value r f both.1)
  absent_value r (half k s w) t =
      let both = and_yes (absent i s) (absent i w) t in
      rw (absent_value r s both.0, absent_value r w both.1)

  -- as the mask changes, e shows what the shape says, and something added that stays
  abbrev pub Plus : (shape : ℕ → ℕ) → Expression → Type 0
  Plus shape e = (rest : ℕ) × ((r : ℕ) → at e r ≡ shape r ⊕ rest)

  abbrev pub Shows : Standing → Expression → Type 0
  Shows added e = Plus (λ r. r) e
  Shows (indexing t index) e = Plus (λ r. r) index × Plus (λ r. setting.tables t (at index r)) e
  Shows otherwise e = Unit

  plus_more : (shape : ℕ → ℕ) (e f : Expression) (b : ℕ) → ((r : ℕ) → at f r ≡ at e r ⊕ b) → Plus shape e → Plus shape f
  plus_more shape e f b h p = (p.0 ⊕ b, λ r. h r ∙ rw (p.1 r) (assoc _ _ _))

  more : (s : Standing) (e f : Expression) (b : ℕ) → ((r : ℕ) → at f r ≡ at e r ⊕ b) → Shows s e → Shows s f
  more added e f b h p = plus_more _ e f b h p
  more (indexing t index) e f b h p = (p.0, plus_more _ e f b h p.1)
  more otherwise e f b h p = tt

  looked : (n : ℕ) (e : Expression) (s : Standing) → Shows s e → Shows (looked_up n e s) (lookup n e)
  unfolding value looked_up
  looked n e added p = (p, (0, λ r. sym (zero_r _)))
  looked n e (indexing t index) p = tt
  looked n e otherwise p = tt

  pub shows : (e : Expression) → Shows (standing i e) e
  unfolding value standing
  shows (secret j) = tt
  shows (mask k) = shows_by_cases (eqb k i) refl
    where
      shows_by_cases : (same : Bool) → eqb k i ≡ same → Shows (cond same added otherwise) (mask k)
      shows_by_cases true e = (0, λ r. rw (eqb-true k i e) (change_at i r c ∙ sym (zero_r r)))
      shows_by_cases false e = tt
  shows (number class a) = tt
  shows (e ⊞ f) = shows_by_cases (shows e) (shows f) (absent i f) (absent i e) (λ t. t) (λ t. t)
    where
      shows_by_cases : Shows (standing i e) e → Shows (standing i f) f → (f_lacks e_lacks : Bool) → (T f_lacks → T (absent i f))
          → (T e_lacks → T (absent i e))
          → Shows (cond f_lacks (standing i e) (cond e_lacks (standing i f) otherwise)) (e ⊞ f)
      shows_by_cases p q true b h k = more (standing i e) e (e ⊞ f) (value setting vs c f) (λ r. rw (absent_value r f (h tt))) p
      shows_by_cases p q false true h k =
          more (standing i f) f (e ⊞ f) (value setting vs c e) (λ r. rw (absent_value r e (k tt)) (comm _ _)) q
      shows_by_cases p q false false h k = tt
  shows (lookup n e) = looked n e (standing i e) (shows e)
  shows (differ e f) = tt
  shows (half k s w) = tt

  -- what is added to the mask, from the whole
  pub rest_is : (e : Expression) (p : Plus (λ r. r) e) → p.0 ≡ c i ⊕ value setting vs c e
  rest_is e p = sym (rw (← change_same i c, p.1) (simp (change_at, xors)))
