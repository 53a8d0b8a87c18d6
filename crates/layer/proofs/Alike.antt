-- Where each call's log alone tells nothing, the logs of several calls tell nothing.
use mathlib.Core.Path.{◌≡◌, refl, sym, ◌∙◌}
use mathlib.Core.Bool.{Bool, true, false, and_self}
use mathlib.Core.List.{List}
use Prim.Native.Nat.{ℕ, ◌<◌}
use native.Mathlib.Nat.{mul-one, one-mul}
use lib.Dec.{eqb}
use Rattle.counting.proofs.Over.{over_ext}
use Rattle.counting.proofs.Product.{product_ext}
use Rattle.lookup.specs.declared.Case.{Case}
use Rattle.secrecy.specs.Count.{mask_widths, value_at, shows}
use Rattle.layer.specs.Layer.{count_by}
use Rattle.layer.proofs.Apart.{alone, asked, both, calls_apart}

module _ (n m : ℕ) (fit : (entry : ℕ) → Type 0) where
  -- a single call's log shows any two values in any two fit entries equally often for both inputs
  abbrev pub Alike : (log : Case → List ℕ) → (x y : ℕ) → Type 0
  Alike log x y = (i j u v : ℕ) → fit i → fit j → alone n m x log (shows i j u v) ≡ alone n m y log (shows i j u v)

  module _ (log : Case → List ℕ) (x y : ℕ) (h : Alike log x y) where
    -- so does whatever says the same
    alike_by : (i j u v : ℕ) → fit i → fit j → (f : List ℕ → ℕ) → ((l : List ℕ) → f l ≡ shows i j u v l) → alone n m x log f ≡ alone n m y log f
    alike_by i j u v hi hj f e =
        over_ext (mask_widths 2 n m) (λ c _. e _) ∙ h i j u v hi hj ∙ sym (over_ext (mask_widths 2 n m) (λ c _. e _))

    -- whichever of two entries are asked for: one alone is as good as the same one twice
    asked_alike : (i j u v : ℕ) → fit i → fit j → (first second : Bool)
        → alone n m x log (asked i j u v first second) ≡ alone n m y log (asked i j u v first second)
    unfolding shows
    asked_alike i j u v hi hj true true =
        alike_by i j u v hi hj (asked i j u v true true) (λ l. sym (both (eqb (value_at l i) u) (eqb (value_at l j) v)))
    asked_alike i j u v hi hj true false = alike_by i i u u hi hi (asked i j u v true false) (λ l. rw (mul-one, and_self))
    asked_alike i j u v hi hj false true = alike_by j j v v hj hj (asked i j u v false true) (λ l. rw (one-mul, and_self))
    asked_alike i j u v hi hj false false = refl

  pub calls_alike : (log : ℕ → Case → List ℕ) (calls : ℕ) (x y : ℕ → ℕ) → ((k : ℕ) → k < calls → Alike (log k) (x k) (y k))
      → (a b i j u v : ℕ) → a < calls → b < calls → fit i → fit j
      → count_by log calls n m x a b i j u v ≡ count_by log calls n m y a b i j u v
  calls_alike log calls x y h a b i j u v ha hb hi hj =
      calls_apart i j u v log calls n m x a b ha hb
      ∙ product_ext calls (λ k l. asked_alike (log k) (x k) (y k) (h k l) i j u v hi hj (eqb a k) (eqb b k))
      ∙ sym (calls_apart i j u v log calls n m y a b ha hb)
