-- What a loop keeps that writes blocks of one size to a buffer, one behind the other, from a position on.
use mathlib.Core.Path.{◌≡◌, refl, sym, ap, ap₂, ◌∙◌}
use mathlib.Core.List.{List, [], ◌∷◌, ◌++◌, append_assoc, append-nil}
use Prim.Native.Nat.{ℕ, zero, suc, ◌+◌, ◌*◌, ◌^◌, ◌≤◌, ◌<◌}
use native.Mathlib.Nat.{add-zero, add-mul, zero-mul, one-mul, mul-le-mul_right}
use native.Mathlib.Numerals.{add-one}
use native.Mathlib.Omega.{arith}
use mir.Syntax.{w64}
use mir.Val.{Fits}
use lib.ListN.{length, get_or, length-append}
use Rattle.buffers.specs.Written.{written}
use Rattle.buffers.proofs.Written.{written_none, written_more, written_long}

-- one times more, and no more than there are
pub once_more : (i k : ℕ) → (i + 1) * k ≡ i * k + k
once_more i k = add-mul i 1 k ∙ ap (λ n. i * k + n) (one-mul k)

pub once_more_within : (i n k : ℕ) → i < n → i * k + k ≤ n * k
once_more_within i n k h =
    let le : (i + 1) * k ≤ n * k = mul-le-mul_right k (omega arith) in
    omega (arith, once_more i k)

-- the first so many blocks
unfoldable pub blocks : (block : ℕ → List ℕ) → ℕ → List ℕ
blocks block zero = []
blocks block (suc i) = blocks block i ++ block i

-- put together from the front
pub blocks_front : (block : ℕ → List ℕ) (k : ℕ) → blocks block (suc k) ≡ block 0 ++ blocks (λ i. block (suc i)) k
unfolding blocks
blocks_front block zero = sym (append-nil (block 0))
blocks_front block (suc k) = ap (λ l. l ++ block (suc k)) (blocks_front block k) ∙ append_assoc (block 0) _ _

pub blocks_same : (b c : ℕ → List ℕ) → ((i : ℕ) → b i ≡ c i) → (k : ℕ) → blocks b k ≡ blocks c k
unfolding blocks
blocks_same b c h zero = refl
blocks_same b c h (suc k) = ap₂ ◌++◌ (blocks_same b c h k) (h k)

pub blocks_long : (size : ℕ) (block : ℕ → List ℕ) (k : ℕ) → ((i : ℕ) → i < k → length (block i) ≡ size) → length (blocks block k) ≡ k * size
unfolding blocks
blocks_long size block zero h = sym (zero-mul size)
blocks_long size block (suc k) h =
    length-append (blocks block k) (block k)
    ∙ omega (arith, blocks_long size block k (λ i l. h i (omega arith)), h k (omega arith), once_more k size)

-- a block for each element, made of its number, counted from the first's, and of itself
pub numbered_blocks : (block : ℕ → ℕ → List ℕ) (all : ℕ → List ℕ → List ℕ) → ((first : ℕ) → all first [] ≡ [])
    → ((first x : ℕ) (xs : List ℕ) → all first (x ∷ xs) ≡ block first x ++ all (first + 1) xs)
    → (first : ℕ) (xs : List ℕ) → all first xs ≡ blocks (λ i. block (first + i) (get_or xs i 0)) (length xs)
unfolding blocks
numbered_blocks block all none more first [] = none first
numbered_blocks block all none more first (x ∷ xs) =
    let one_on : (i : ℕ) → first + 1 + i ≡ first + suc i = λ i. omega arith in
    rw (more first x xs, blocks_front (λ i. block (first + i) (get_or (x ∷ xs) i 0)) (length xs), add-zero)
    (ap (λ l. block first x ++ l)
    (numbered_blocks block all none more (first + 1) xs
    ∙ blocks_same _ _ (λ i. ap (λ p. block p (get_or xs i 0)) (one_on i)) (length xs)))

-- the first i of so many blocks stand there, and all else is as it was
pub record Stacking (from size count : ℕ) (block : ℕ → List ℕ) (before now : List ℕ) (i : ℕ) : Type 0 where
  pub stacked : now ≡ written before from (blocks block i)
  pub within : i ≤ count
  pub long : length now ≡ length before

module _ (from size count : ℕ) (block : ℕ → List ℕ) (before : List ℕ) where
  pub stacking_begins : Stacking from size count block before before 0
  unfolding blocks
  stacking_begins = record { stacked = sym (written_none before from); within = omega arith; long = refl }

  module _ (now : List ℕ) (i : ℕ) (s : Stacking from size count block before now i) where
    -- the next block has its place
    pub stacking_room : i < count → from + count * size ≤ length before → from + i * size + size ≤ length now
    stacking_room h room = omega (arith, s.long, once_more_within i count size h)

    pub stacking_turns : (next : List ℕ) (at : ℕ) → ((j : ℕ) → j < count → length (block j) ≡ size) → i < count
        → from + count * size ≤ length before → at ≡ from + i * size → next ≡ written now at (block i)
        → Stacking from size count block before next (i + 1)
    unfolding blocks
    stacking_turns next at sized h room place e =
        let one = sized i h in
        let end = stacking_room h room in
        let passed : from + length (blocks block i) ≡ at = omega (arith, blocks_long size block i (λ j l. sized j (omega arith)), place) in
        record {
          stacked =
              e ∙ ap (λ l. written l at (block i)) s.stacked
              ∙ written_more before from at (blocks block i) (block i) passed (omega (arith, one, end, s.long)) ∙ rw add-one;
          within = omega arith;
          long = ap length e ∙ written_long now at (block i) (omega (arith, one, end)) ∙ s.long;
        }

    pub stacking_ends : count ≤ i → now ≡ written before from (blocks block count)
    stacking_ends h =
        let whole : i ≡ count = omega (arith, s.within) in
        s.stacked ∙ ap (λ k. written before from (blocks block k)) whole

-- the same of a loop that keeps the place of its next block
pub record Placing (from size count : ℕ) (block : ℕ → List ℕ) (before now : List ℕ) (next i : ℕ) : Type 0 where
  pub stack : Stacking from size count block before now i
  pub place : next ≡ from + i * size

module _ (from size count : ℕ) (block : ℕ → List ℕ) (before : List ℕ) where
  pub placing_begins : Placing from size count block before before from 0
  placing_begins = record { stack = stacking_begins from size count block before; place = omega (arith, zero-mul size) }

  module _ (now : List ℕ) (next i : ℕ) (room : from + count * size ≤ length before) (p : Placing from size count block before now next i) where
    pub placing_room : i < count → next + size ≤ length now
    placing_room h = omega (arith, p.place, stacking_room from size count block before now i p.stack h room)

    pub placing_fits : i < count → length before < 2 ^ 64 → Fits w64 (next + size)
    placing_fits h l = record { fits = omega (arith, placing_room h, p.stack.long) }

    pub placing_turns : (after : List ℕ) → ((j : ℕ) → j < count → length (block j) ≡ size) → i < count
        → after ≡ written now next (block i) → Placing from size count block before after (next + size) (i + 1)
    placing_turns after sized h e =
        record {
          stack = stacking_turns from size count block before now i p.stack after next sized h room p.place e;
          place = omega (arith, p.place, once_more i size);
        }
