-- A half as the code takes it: by a shift that the bit chooses, and the lowest bits of what is left.
use mathlib.Core.Path.{◌≡◌, sym, ◌∙◌, ap}
use Prim.Native.Nat.{ℕ, zero, suc, ◌+◌, ◌-◌, ◌*◌, ◌/◌, ◌^◌, ◌≤◌, ◌<◌}
use native.Mathlib.Nat.{lt_of_lt_of_le, mul-one, mul-zero, mul_comm, mul-div_cancel, add_comm, div-one}
use native.Mathlib.Omega.{arith}
use mir.Syntax.{w8, w32}
use mir.Val.{Fits}
use lib.Bits.{bit_and, and_mask, mask_lt}
use lib.Pow.{pow_pos, pow_mono, shr_mod, shr-shr}
use Rattle.halves.specs.Halves.{half}

pub power_least : (r width : ℕ) → r ≡ 2 ^ width → 1 ≤ r
power_least r width e = rw e (pow_pos width)

pub shift_most : (width bit : ℕ) → width ≤ 8 → width * (1 - bit) ≤ 8
shift_most width zero h = rw (mul-one width) h
shift_most width (suc bit) h =
    let none : 1 - suc bit ≡ 0 = omega arith in
    rw (none, mul-zero width) (omega arith)

pub product_fits : (width bit : ℕ) → width ≤ 8 → Fits w32 (width * (1 - bit))
product_fits width bit h = record { fits = omega (arith, shift_most width bit h) }

pub shift_fits : (width bit : ℕ) → width ≤ 8 → Fits w32 (width * (1 - bit) + 1)
shift_fits width bit h = record { fits = omega (arith, shift_most width bit h) }

pub shift_below : (width bit : ℕ) → width ≤ 8 → width * (1 - bit) + 1 < 32
shift_below width bit h = omega (arith, shift_most width bit h)

pub doubled_fits : (width word : ℕ) → width ≤ 8 → word < 2 ^ (2 * width) → Fits w32 (2 * word)
doubled_fits width word h l =
    let most : 2 * width ≤ 16 = omega arith in
    record { fits = omega (arith, lt_of_lt_of_le l (pow_mono most)) }

-- a number that is doubled and shifted by one more
once_more : (word shift : ℕ) → (2 * word) / 2 ^ (shift + 1) ≡ word / 2 ^ shift
once_more word shift =
    ap (λ (x : ℕ). x / 2 ^ (shift + 1)) (mul_comm 2 word)
    ∙ ap (λ (x : ℕ). word * 2 / 2 ^ x) (add_comm shift 1)
    ∙ sym (shr-shr (word * 2) 1 shift)
    ∙ ap (λ (x : ℕ). x / 2 ^ shift) (mul-div_cancel word (pow_pos 1))

module _ (r width : ℕ) (e : r ≡ 2 ^ width) where
  pub low_fits : (shifted : ℕ) → width ≤ 8 → Fits w8 (bit_and shifted (r - 1))
  low_fits shifted h = record { fits = rw e (lt_of_lt_of_le (mask_lt shifted width) (pow_mono h)) }

  pub half_shifted : (bit word : ℕ) → bit < 2 → word < 2 ^ (2 * width) → bit_and ((2 * word) / 2 ^ (width * (1 - bit) + 1)) (r - 1) ≡ half width bit word
  unfolding half
  half_shifted zero word h l =
      let double : 2 * width ≡ width + width = omega arith in
      rw (e, once_more word (width * 1), mul-one width) (and_mask (word / 2 ^ width) width ∙ shr_mod width width (rw double at l))
  half_shifted (suc zero) word h l = rw (e, once_more word (width * 0), mul-zero width, div-one word) (and_mask word width)
  half_shifted (suc (suc bit)) word h l = absurd (omega arith)
