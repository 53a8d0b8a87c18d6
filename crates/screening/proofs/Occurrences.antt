-- How often a value stands in a list that is put together, or in a part of it.
use mathlib.Core.Path.{◌≡◌, refl, sym, ap, ◌∙◌}
use mathlib.Core.Bool.{cond}
use mathlib.Core.List.{List, [], ◌∷◌, ◌++◌}
use Prim.Native.Nat.{ℕ, zero, suc, ◌+◌, ◌-◌, ◌≤◌}
use native.Mathlib.Nat.{zero-add, add-zero, add_assoc}
use native.Mathlib.Omega.{arith}
use borrow.Author.Tests.{eq-eqb}
use lib.Dec.{eqb}
use lib.ListN.{take, drop, replicate, take-append-drop}
use lib.Seq.{take-add}
use Rattle.table.specs.Balanced.{count_of}

pub count_append : (v : ℕ) (xs ys : List ℕ) → count_of v (xs ++ ys) ≡ count_of v xs + count_of v ys
unfolding count_of
count_append v [] ys = sym (zero-add _)
count_append v (x ∷ xs) ys = ap (λ n. cond (eqb x v) 1 0 + n) (count_append v xs ys) ∙ sym (add_assoc _ _ _)

pub count_last : (v : ℕ) (xs : List ℕ) (byte : ℕ) → count_of v (xs ++ (byte ∷ [])) ≡ count_of v xs + cond (eqb byte v) 1 0
unfolding count_of
count_last v xs byte = count_append v xs (byte ∷ []) ∙ ap (λ n. count_of v xs + n) (add-zero _)

-- a longer front has no fewer
pub count_front : (v : ℕ) (run : List ℕ) (j k : ℕ) → j ≤ k → count_of v (take j run) ≤ count_of v (take k run)
count_front v run j k h =
    let whole : k ≡ j + (k - j) = omega arith in
    let parts : count_of v (take k run) ≡ count_of v (take j run) + count_of v (take (k - j) (drop j run))
    = ap (λ (n : ℕ). count_of v (take n run)) whole ∙ ap (count_of v) (take-add j (k - j) run) ∙ count_append v _ _ in
    omega arith

-- a part has no more than the whole
pub count_part : (v size start : ℕ) (run : List ℕ) → count_of v (take size (drop start run)) ≤ count_of v run
count_part v size start run =
    let front = ap (count_of v) (take-append-drop size (drop start run)) in
    let rest = ap (count_of v) (take-append-drop start run) in
    omega (
      arith,
      count_append v (take size (drop start run)) (drop size (drop start run)),
      count_append v (take start run) (drop start run),
    )

-- a list of one value
pub count_same : (v size : ℕ) → count_of v (replicate size v) ≡ size
unfolding count_of
count_same v zero = refl
count_same v (suc size) = rw (eq-eqb v v refl, count_same v size) (omega arith)
