-- Where one secret is changed and the masks are shifted, an expression is off by the difference of the secret's two values, or kept, as
-- `off` says.
use mathlib.Core.Path.{◌≡◌, refl, sym, ap, ap₂, ◌∙◌}
use mathlib.Core.Bool.{Bool, true, false, cond, not, ◌&&◌, beq, xor}
use mathlib.Core.List.{List}
use Prim.Native.Nat.{ℕ}
use borrow.Author.Tests.{eqb-true, eqb-false, eq-eqb, ne_eqb}
use mir.Facts.{and_yes}
use lib.Dec.{T, eqb}
use lib.ListN.{get_or}
use Rattle.bits.specs.Xor.{◌⊕◌}
use Rattle.bits.proofs.Xor.{xors, zero_r}
use Rattle.counting.specs.Choice.{change}
use Rattle.probing.specs.Expression.{Expression, secret, mask, number, ◌⊞◌, lookup, differ, half, Setting, value}
use Rattle.probing.specs.Test.{off, tracked, off_by}
use Rattle.probing.proofs.Bool.{beq_same, not_false}
use Rattle.probing.proofs.Change.{changed}

-- a sum is off where one of its two parts is
sum_off : (a b : Bool) (x y d : ℕ) → (x ⊕ cond a d 0) ⊕ (y ⊕ cond b d 0) ≡ x ⊕ y ⊕ cond (xor a b) d 0
unfolding xor
sum_off true true x y d = simp xors
sum_off true false x y d = simp xors
sum_off false true x y d = simp xors
sum_off false false x y d = simp xors

-- two numbers that are off alike are equal where they were
alike_off : (a b d : ℕ) → eqb (a ⊕ d) (b ⊕ d) ≡ eqb a b
alike_off a b d = alike_off_by_cases (eqb a b) refl
  where
    alike_off_by_cases : (same : Bool) → eqb a b ≡ same → eqb (a ⊕ d) (b ⊕ d) ≡ same
    alike_off_by_cases true e = eq-eqb _ _ (ap (λ x. x ⊕ d) (eqb-true a b e))
    alike_off_by_cases false e = ne_eqb (a ⊕ d) (b ⊕ d) (λ h. eqb-false a b e (simp xors at (ap (λ x. d ⊕ x) h)))

-- the secret itself is off by the difference, and the others are kept
secret_off : (j v : ℕ) (vs : ℕ → ℕ) (k : ℕ) → cond (eqb k j) v (vs k) ≡ vs k ⊕ cond (eqb k j) (vs j ⊕ v) 0
secret_off j v vs k = secret_off_by_cases (eqb k j) refl
  where
    secret_off_by_cases : (same : Bool) → eqb k j ≡ same → cond same v (vs k) ≡ vs k ⊕ cond same (vs j ⊕ v) 0
    secret_off_by_cases true e = rw (eqb-true k j e) (simp xors)
    secret_off_by_cases false e = simp xors

-- the number that a shift adds to each mask
abbrev pub shifting : (shift : List Bool) (difference : ℕ) → ℕ → ℕ
shifting shift d i = cond (get_or shift i false) d 0

module _ (setting : Setting) (j : ℕ) (shift : List Bool) (vs : ℕ → ℕ) (v : ℕ) (c : ℕ → ℕ) where
  off_value : (e : Expression) → T (tracked j shift e)
      → value setting (change j v vs) (λ i. c i ⊕ shifting shift (vs j ⊕ v) i) e ≡ value setting vs c e ⊕ cond (off j shift e) (vs j ⊕ v) 0
  unfolding value off tracked
  off_value (secret k) t = changed j v vs k ∙ secret_off j v vs k
  off_value (mask i) t = refl
  off_value (number class a) t = sym (zero_r _)
  off_value (e ⊞ f) t =
      let both = and_yes (tracked j shift e) (tracked j shift f) t in
      rw (off_value e both.0, off_value f both.1) (sum_off (off j shift e) (off j shift f) _ _ _)
  off_value (lookup n e) t =
      let both = and_yes (tracked j shift e) (not (off j shift e)) t in
      ap (setting.tables n) (off_value e both.0 ∙ rw (not_false (off j shift e) both.1) (zero_r _)) ∙ sym (zero_r _)
  off_value (differ e f) t =
      let all = and_yes (tracked j shift e && tracked j shift f) (beq (off j shift e) (off j shift f)) t in
      let both = and_yes (tracked j shift e) (tracked j shift f) all.0 in
      ap₂ (λ a b. cond (eqb a b) 0 1) (rw (beq_same (off j shift e) (off j shift f) all.1) at (off_value e both.0))
      (off_value f both.1)
      ∙ rw alike_off (sym (zero_r _))
  off_value (half k s w) t =
      let both = and_yes (tracked j shift s && not (off j shift s)) (tracked j shift w && not (off j shift w)) t in
      let bit = and_yes (tracked j shift s) (not (off j shift s)) both.0 in
      let word = and_yes (tracked j shift w) (not (off j shift w)) both.1 in
      let bit_kept : value setting (change j v vs) (λ i. c i ⊕ shifting shift (vs j ⊕ v) i) s ≡ value setting vs c s
      = off_value s bit.0 ∙ rw (not_false (off j shift s) bit.1) (zero_r _) in
      let word_kept : value setting (change j v vs) (λ i. c i ⊕ shifting shift (vs j ⊕ v) i) w ≡ value setting vs c w
      = off_value w word.0 ∙ rw (not_false (off j shift w) word.1) (zero_r _) in
      rw (bit_kept, word_kept) (sym (zero_r _))

  pub off_by_value : (put_off : Bool) (e : Expression) → T (off_by j shift put_off e)
      → value setting (change j v vs) (λ i. c i ⊕ shifting shift (vs j ⊕ v) i) e ≡ value setting vs c e ⊕ cond put_off (vs j ⊕ v) 0
  unfolding off_by
  off_by_value put_off e t =
      let both = and_yes (tracked j shift e) (beq (off j shift e) put_off) t in
      rw (beq_same (off j shift e) put_off both.1) at (off_value e both.0)
