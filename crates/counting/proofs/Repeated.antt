-- Widths that are repeated: factors that see the masks of one repetition each are counted one by one, and multiply.
use mathlib.Core.Path.{◌≡◌, refl, sym, ap, ap₂, fun_ext, ◌∙◌}
use mathlib.Core.List.{List, flatten}
use Prim.Native.Nat.{ℕ, zero, suc, ◌+◌, ◌*◌, ◌<◌}
use native.Mathlib.Nat.{not-suc-le-zero, le_of_suc-le-suc, zero-mul}
use native.Mathlib.Omega.{arith}
use lib.ListN.{length, replicate}
use Rattle.counting.specs.Choice.{over, Within, total}
use Rattle.counting.proofs.Over.{over_ext}
use Rattle.counting.proofs.Append.{appended, appended_behind, within_first, within_behind, over_append, over_apart, total_append}
use Rattle.counting.proofs.Product.{product, product_ext}

module _ (ws : List ℕ) where
  -- the masks of repetition i
  abbrev pub part : (i : ℕ) → (choice : ℕ → ℕ) → ℕ → ℕ
  part i c j = c (length ws * i + j)

  part_first : (c d : ℕ → ℕ) → part 0 (appended (length ws) c d) ≡ appended (length ws) c d
  part_first c d = fun_ext (λ j. ap (appended (length ws) c d) (omega arith))

  part_later : (i : ℕ) (c d : ℕ → ℕ) → part (suc i) (appended (length ws) c d) ≡ part i d
  part_later i c d = fun_ext (λ j. ap (appended (length ws) c d) (omega arith) ∙ appended_behind (length ws) c d (length ws * i + j))

  -- the masks of one repetition alone are within the widths
  pub part_within : (times : ℕ) (c : ℕ → ℕ) → Within (flatten (replicate times ws)) c → (i : ℕ) → i < times
      → Within ws (appended (length ws) (part i c) (λ j. 0))
  unfolding flatten
  part_within zero c h i l = absurd (not-suc-le-zero l)
  part_within (suc k) c h zero l =
      let first : part 0 c ≡ c = fun_ext (λ j. ap c (omega arith)) in
      rw first (within_first ws (flatten (replicate k ws)) c h)
  part_within (suc k) c h (suc i) l =
      let later : part (suc i) c ≡ part i (λ j. c (length ws + j)) = fun_ext (λ j. ap c (omega arith)) in
      rw later (part_within k (λ j. c (length ws + j)) (within_behind ws (flatten (replicate k ws)) c h) i (le_of_suc-le-suc l))

  -- no factor sees what lies past the widths
  abbrev pub SeenWithin : (factor : ℕ → (ℕ → ℕ) → ℕ) → Type 0
  SeenWithin f = (i : ℕ) (c d : ℕ → ℕ) → f i (appended (length ws) c d) ≡ f i c

  -- the first factor sees the first repetition, and the others see those behind it
  first_apart : (k : ℕ) (f : ℕ → (ℕ → ℕ) → ℕ) → SeenWithin f → (c d : ℕ → ℕ)
      → product (suc k) (λ i. f i (part i (appended (length ws) c d))) ≡ f 0 c * product k (λ i. f (suc i) (part i d))
  unfolding product
  first_apart k f seen c d =
      ap₂ ◌*◌ (ap (f 0) (part_first c d) ∙ seen 0 c d) (product_ext k (λ i _. ap (f (suc i)) (part_later i c d)))

  pub over_repeated : (times : ℕ) (f : ℕ → (ℕ → ℕ) → ℕ) → SeenWithin f
      → over (flatten (replicate times ws)) (λ c. product times (λ i. f i (part i c))) ≡ product times (λ i. over ws (f i))
  unfolding over flatten product
  over_repeated zero f seen = refl
  over_repeated (suc k) f seen =
      let rest = flatten (replicate k ws) in
      over_append ws rest _
      ∙ over_ext ws (λ c _. over_ext rest (λ d _. first_apart k f seen c d))
      ∙ over_apart ws rest (f 0) (λ d. product k (λ i. f (suc i) (part i d)))
      ∙ ap (λ t. over ws (f 0) * t) (over_repeated k (λ i. f (suc i)) (λ i. seen (suc i)))

  pub total_repeated : (times : ℕ) → total (flatten (replicate times ws)) ≡ times * total ws
  unfolding total flatten
  total_repeated zero = sym (zero-mul (total ws))
  total_repeated (suc k) = rw (total_append ws (flatten (replicate k ws)), total_repeated k) (omega arith)
