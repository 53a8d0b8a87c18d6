-- A word of two halves with its halves exchanged: exclusive or goes through the exchange, and no sum over all words changes.
use mathlib.Core.Path.{◌≡◌, sym, ap, ◌∙◌}
use Prim.Native.Nat.{ℕ, ◌+◌, ◌*◌, ◌/◌, ◌%◌, ◌^◌, ◌<◌}
use native.Mathlib.Nat.{mod-lt, add-zero}
use native.Mathlib.Omega.{arith}
use lib.Bits.{xor_shifted, xor_block}
use lib.Pow.{pow_pos, pow-add, shr_lt, shl_lt, shr_le, high, low}
use Rattle.bits.specs.Xor.{◌⊕◌}
use Rattle.bits.proofs.Xor.{xors, high_bits, low_bits, below}
use Rattle.counting.specs.Sum.{sum}
use Rattle.counting.proofs.Sum.{sum_ext, sum_swap, sum_blocks}

-- the low half above, the high half below
unfoldable pub exchanged : (width word : ℕ) → ℕ
exchanged l w = (w % 2 ^ l * 2 ^ l) ⊕ (w / 2 ^ l)

-- of a number above and one below, each of the half's width
pub exchanged_pair : (l high low : ℕ) → high < 2 ^ l → low < 2 ^ l → exchanged l (high * 2 ^ l + low) ≡ low * 2 ^ l + high
unfolding exchanged ◌⊕◌
exchanged_pair l a b h k = rw (high a l k, low a l k) (xor_shifted b l a h)

module _ (l w : ℕ) (h : w < 2 ^ (l + l)) where
  high_below : w / 2 ^ l < 2 ^ l
  high_below = shr_lt l l h

  low_below : w % 2 ^ l < 2 ^ l
  low_below = mod-lt w (pow_pos l)

  parts : exchanged l w ≡ w % 2 ^ l * 2 ^ l + w / 2 ^ l
  unfolding exchanged ◌⊕◌
  parts = xor_shifted (w % 2 ^ l) l (w / 2 ^ l) high_below

  -- its high half is the low half of before, and the other way round
  pub exchanged_high : exchanged l w / 2 ^ l ≡ w % 2 ^ l
  exchanged_high = rw parts (high (w % 2 ^ l) l high_below)

  pub exchanged_low : exchanged l w % 2 ^ l ≡ w / 2 ^ l
  exchanged_low = rw parts (low (w % 2 ^ l) l high_below)

pub exchanged_below : (l w : ℕ) → w < 2 ^ (l + l) → exchanged l w < 2 ^ (l + l)
unfolding exchanged
exchanged_below l w h =
    let wider : w / 2 ^ l < 2 ^ (l + l) = omega (arith, shr_le w l) in
    below (l + l) (shl_lt l l (mod-lt w (pow_pos l))) wider

-- a shifted sum
xor_times : (l a b : ℕ) → (a ⊕ b) * 2 ^ l ≡ (a * 2 ^ l) ⊕ (b * 2 ^ l)
unfolding ◌⊕◌
xor_times l a b = sym (simp add-zero at (xor_block l a b 0 0 (pow_pos l) (pow_pos l)))

pub exchanged_sum : (l a b : ℕ) → exchanged l (a ⊕ b) ≡ exchanged l a ⊕ exchanged l b
unfolding exchanged
exchanged_sum l a b = rw (low_bits l a b, high_bits l a b, xor_times l (a % 2 ^ l) (b % 2 ^ l)) (simp xors)

-- no sum over all words changes
pub exchange : (l : ℕ) (f : ℕ → ℕ) → sum (2 ^ (l + l)) (λ w. f (exchanged l w)) ≡ sum (2 ^ (l + l)) f
exchange l f =
    rw (pow-add 2 l l)
    (sum_blocks (2 ^ l) (2 ^ l) (λ w. f (exchanged l w))
    ∙ sum_ext (2 ^ l) (λ a h. sum_ext (2 ^ l) (λ b k. ap f (exchanged_pair l a b h k)))
    ∙ sum_swap (2 ^ l) (2 ^ l) (λ a b. f (b * 2 ^ l + a))
    ∙ sym (sum_blocks (2 ^ l) (2 ^ l) f))
