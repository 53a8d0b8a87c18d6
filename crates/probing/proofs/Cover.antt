-- A mask that is absent from f, over all its numbers: what is added to it in e changes no sum. So e may be replaced by the mask, or be off by
-- the difference of two entries of a table in which the mask is looked up.
use mathlib.Core.Path.{◌≡◌, sym, ap, ap₂, ◌∙◌}
use Prim.Native.Nat.{ℕ, ◌^◌, ◌<◌}
use lib.Dec.{T}
use lib.Pow.{pow_pos}
use Rattle.bits.specs.Xor.{◌⊕◌}
use Rattle.bits.proofs.Xor.{xors, below, zero_r}
use Rattle.counting.specs.Sum.{sum}
use Rattle.counting.specs.Choice.{width, change}
use Rattle.counting.proofs.Sum.{sum_ext}
use Rattle.counting.proofs.Shift.{shift}
use Rattle.counting.proofs.Choice.{change_at}
use Rattle.counting.proofs.Over.{over_local}
use Rattle.probing.specs.Expression.{Expression, mask, System, Setting, value}
use Rattle.probing.specs.Alike.{widths, Valid, seen, EvenFor, Known}
use Rattle.probing.specs.Test.{of_class, absent, indexing}
use Rattle.probing.proofs.Masks.{absent_value, Plus, Shows, rest_is}
use Rattle.probing.proofs.Class.{class_below}

swap : (a b c : ℕ) → a ⊕ b ⊕ c ≡ a ⊕ c ⊕ b
swap a b c = simp xors

-- the numbers of the mask i are put in another order
free : (setting : Setting) (vs : ℕ → ℕ) (i : ℕ) (c : ℕ → ℕ) (f : Expression) → T (absent i f)
    → (g : ℕ → ℕ → ℕ) (shape : ℕ → ℕ) (e : Expression) (n : ℕ) {rest : ℕ} → rest < 2 ^ n
    → ((r : ℕ) → value setting vs (change i r c) e ≡ shape (r ⊕ rest))
    → sum (2 ^ n) (λ r. g (value setting vs (change i r c) e) (value setting vs (change i r c) f))
    ≡ sum (2 ^ n) (λ z. g (shape z) (value setting vs c f))
free setting vs i c f t g shape e n h shown =
    sum_ext _ (λ r _. ap₂ g (shown r) (absent_value setting vs i c r f t)) ∙ shift n (λ z. g (shape z) (value setting vs c f)) h

-- the mask i, of class k
module _ (system : System) (setting : Setting) {hs ts : ℕ → ℕ} (known : Known system setting hs ts)
    {vs : ℕ → ℕ} (valid : Valid setting system.secrets vs)
    (i k : ℕ) (size : width (widths setting system.masks) i ≡ setting.width k) (f : Expression) (t : T (absent i f)) where
  -- what is added to the mask is of its class where the whole is
  rest_below : {c : ℕ → ℕ} → Valid setting system.masks c → (e : Expression) → T (of_class system k e)
      → (p : Plus setting vs i c (λ r. r) e)
      → p.0 < 2 ^ setting.width k
  rest_below {c} within e u p =
      rw (rest_is setting vs i c e p) (below _ (rw size at (within.each i)) (class_below system setting known valid within k e u))

  pub replaced : (e : Expression) → T (of_class system k e) → ((c : ℕ → ℕ) → Plus setting vs i c (λ r. r) e) → (g : ℕ → ℕ → ℕ)
      → seen system setting vs g e f ≡ seen system setting vs g (mask i) f
  unfolding value
  replaced e u p g =
      over_local (widths setting system.masks) i _ _
      (λ c within.
      rw size
      (free setting vs i c f t g (λ z. z) e _ (rest_below within e u (p c)) (p c).1
      ∙ sym (free setting vs i c f t g (λ z. z) (mask i) _ (pow_pos _) (λ r. change_at i r c ∙ sym (zero_r r)))))

  pub evened : (n : ℕ) (index e : Expression) → T (of_class system k index) → ((c : ℕ → ℕ) → Shows setting vs i c (indexing n index) e)
      → (d : ℕ) → EvenFor (2 ^ setting.width k) (setting.tables n) d → (g : ℕ → ℕ → ℕ)
      → seen system setting vs (λ x y. g (x ⊕ d) y) e f ≡ seen system setting vs g e f
  evened n index e u p d even g =
      over_local (widths setting system.masks) i _ _
      (λ c within.
      let rest : ℕ = (p c).1.0 in
      let shape : ℕ → ℕ = λ z. setting.tables n z ⊕ rest in
      let bound = rest_below within index u (p c).0 in
      let shown : (r : ℕ) → value setting vs (change i r c) e ≡ shape (r ⊕ (p c).0.0) = λ r. (p c).1.1 r ∙ rw ((p c).0.1 r) in
      rw size
      (free setting vs i c f t (λ x y. g (x ⊕ d) y) shape e _ bound shown
      ∙ sum_ext _ (λ z _. ap (λ x. g x (value setting vs c f)) (swap (setting.tables n z) rest d))
      ∙ even (λ x. g (x ⊕ rest) (value setting vs c f))
      ∙ sym (free setting vs i c f t g shape e _ bound shown)))
