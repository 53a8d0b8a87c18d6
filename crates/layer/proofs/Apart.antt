-- A layer's calls are apart: what is asked of their logs is counted call by call, and multiplies.
use mathlib.Core.Path.{◌≡◌, refl, sym, ap, ap₂, ◌∙◌}
use mathlib.Core.Bool.{Bool, true, false, cond, ◌&&◌}
use mathlib.Core.List.{List}
use Prim.Native.Nat.{ℕ, ◌+◌, ◌*◌, ◌<◌}
use lib.Dec.{eqb}
use Rattle.counting.specs.Choice.{over}
use Rattle.counting.proofs.Over.{over_ext}
use Rattle.counting.proofs.Product.{product, product_ext, product_times, product_one}
use Rattle.counting.proofs.Repeated.{over_repeated}
use Rattle.lookup.specs.declared.Case.{Case}
use Rattle.lookup.specs.Methods.{found, method_of}
use Rattle.secrecy.specs.Count.{single, chosen_case, mask_widths, value_at}
use Rattle.layer.specs.Layer.{layer_widths, places, call_case, count_by}

-- a single call's case, of the masks that stand behind those of k calls
own_masks : (n m x k : ℕ) (c : ℕ → ℕ) → chosen_case (places k) 2 n m x c ≡ chosen_case single 2 n m x (λ i. c (6 * k + i))
unfolding places chosen_case
own_masks n m x k c = refl

-- what is seen of a single call's log, over all choices of its masks
abbrev pub alone : (n m x : ℕ) → (log : Case → List ℕ) → (seen : List ℕ → ℕ) → ℕ
alone n m x log f = over (mask_widths 2 n m) (λ c. f (log (chosen_case single 2 n m x c)))

-- 1 where the log has this value in this entry
abbrev sees : (entry value : ℕ) → (log : List ℕ) → ℕ
sees e w log = cond (eqb (value_at log e) w) 1 0

pub both : (p q : Bool) → cond (p && q) 1 0 ≡ cond p 1 0 * cond q 1 0
both true true = refl
both true false = refl
both false true = refl
both false false = refl

module _ (i j u v : ℕ) where
  -- 1 where the log shows what is asked of it: value u in entry i, value v in entry j, both, or nothing
  abbrev pub asked : (first second : Bool) → (log : List ℕ) → ℕ
  asked first second log = cond first (sees i u log) 1 * cond second (sees j v log) 1

  -- two values are there if each call's log shows what is asked of this call
  asked_of_all : (a b calls : ℕ) (log : ℕ → List ℕ) → a < calls → b < calls
      → cond (eqb (value_at (log a) i) u && eqb (value_at (log b) j) v) 1 0 ≡ product calls (λ k. asked (eqb a k) (eqb b k) (log k))
  asked_of_all a b calls log ha hb =
      both (eqb (value_at (log a) i) u) (eqb (value_at (log b) j) v)
      ∙ sym (product_times calls _ _ ∙ ap₂ ◌*◌ (product_one calls a (λ k. sees i u (log k)) ha) (product_one calls b (λ k. sees j v (log k)) hb))

  pub calls_apart : (log : ℕ → Case → List ℕ) (calls n m : ℕ) (x : ℕ → ℕ) (a b : ℕ) → a < calls → b < calls
      → count_by log calls n m x a b i j u v ≡ product calls (λ k. alone n m (x k) (log k) (asked (eqb a k) (eqb b k)))
  unfolding count_by layer_widths call_case mask_widths method_of found chosen_case
  calls_apart log calls n m x a b ha hb =
      let of_call : ℕ → Case → ℕ = λ k case. asked (eqb a k) (eqb b k) (log k case) in
      over_ext (layer_widths calls n m) (λ c _. asked_of_all a b calls (λ k. log k (call_case n m x c k)) ha hb)
      ∙ over_ext (layer_widths calls n m) (λ c _. product_ext calls (λ k _. ap (of_call k) (own_masks n m (x k) k c)))
      ∙ over_repeated (mask_widths 2 n m) calls (λ k c. of_call k (chosen_case single 2 n m (x k) c)) (λ k c d. refl)
