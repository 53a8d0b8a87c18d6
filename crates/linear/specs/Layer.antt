-- The linear layer on shares, with refusals 3, 4, 8, 9 and 10.
use Rattle.std.specs.Prelude.{◌||◌, not, List, [], ◌∷◌, ℕ, ◌+◌, ◌*◌, ◌%◌, ◌^◌, leb, eqb, length}
use Rattle.std.specs.Int.Bits.{bit_and}
use Rattle.std.specs.Int.Count.{ones}
use Rattle.bits.specs.Xor.{◌⊕◌}
use Rattle.refusals.specs.Checks.{◌when◌, first_of}
use Rattle.refusals.specs.Tests.{outside, any_from}
use Rattle.shares.specs.Shares.{SharesReply, reply}

-- 1 when row and input have an odd number of ones in common
unfoldable pub odd_common : (row x : ℕ) → ℕ
odd_common row x = ones (bit_and row x) % 2

-- row i gives output bit i, bit 0 lowest
unfoldable pub mapped : (rows : List ℕ) → (x : ℕ) → ℕ
mapped [] x = 0
mapped (row ∷ rows) x = mapped rows x * 2 + odd_common row x

unfoldable pub layer_refusal : (n m : ℕ) → (rows : List ℕ) → (constant a b c : ℕ) → ℕ
layer_refusal n m rows constant a b c =
    first_of
    (3 when (outside 1 8 n)
    ∷ 4 when (outside 1 n m)
    ∷ 8 when (not (eqb (length rows) m))
    ∷ 9 when (any_from (2 ^ n) rows || leb (2 ^ m) constant)
    ∷ 10 when (any_from (2 ^ n) (a ∷ b ∷ c ∷ []))
    ∷ [])

-- the map acts on each share; the constant is added to the first share only
unfoldable pub layer : (n m : ℕ) → (rows : List ℕ) → (constant a b c : ℕ) → SharesReply
layer n m rows constant a b c = reply (layer_refusal n m rows constant a b c) (mapped rows a ⊕ constant) (mapped rows b) (mapped rows c)
