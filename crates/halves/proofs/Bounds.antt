-- What the bounds of a selection's numbers give: they and their sums fit where the code puts them.
use mathlib.Core.Path.{◌≡◌}
use Prim.Native.Nat.{ℕ, ◌*◌, ◌^◌, ◌≤◌, ◌<◌}
use native.Mathlib.Nat.{lt_of_lt_of_le}
use native.Mathlib.Omega.{arith}
use mir.Syntax.{w8, w16, w64}
use mir.Val.{Fits}
use lib.Bits.{bit_xor}
use Rattle.bits.specs.Xor.{◌⊕◌}
use Rattle.bits.proofs.Xor.{below}
use Rattle.halves.specs.declared.Selection.{Selection}
use Rattle.halves.specs.Bounded.{Bounded}
use Rattle.halves.specs.Halves.{c3}

-- sums of bits
pub bits_below : {v u : ℕ} → v < 2 → u < 2 → bit_xor v u < 2
unfolding ◌⊕◌
bits_below h k = below 1 h k

pub bits_byte : {v u : ℕ} → v < 2 → u < 2 → Fits w8 (bit_xor v u)
bits_byte h k = record { fits = omega (arith, bits_below h k) }

pub c3_below : (s : Selection) → s.c1 < 2 → s.c2 < 2 → s.b < 2 → c3 s < 2
unfolding c3 ◌⊕◌
c3_below s c1 c2 b = bits_below (bits_below c1 b) c2

module _ (s : Selection) (k : Bounded s) where
  pub half_byte : {v : ℕ} → v < 2 ^ s.width → Fits w8 v
  half_byte h = record { fits = lt_of_lt_of_le h k.halves_most }

  pub word_fits : {v : ℕ} → v < 2 ^ (2 * s.width) → Fits w16 v
  word_fits h = record { fits = lt_of_lt_of_le h k.words_most }

  -- as the code has it, c1 ⊕ b having come through a call
  pub place_fits : {w : ℕ} → w ≡ bit_xor s.c1 s.b → Fits w64 (bit_xor w s.c2)
  place_fits e = rw e (record { fits = omega (arith, bits_below (bits_below k.c1 k.b) k.c2) })

  pub place_below : (p : ℕ) → p ≡ c3 s → p < 2
  place_below p e = rw e (c3_below s k.c1 k.c2 k.b)

  pub place_most : (p : ℕ) → p ≡ c3 s → p ≤ 1
  place_most p e = omega (arith, place_below p e)

  pub placed : {w : ℕ} → w ≡ bit_xor s.c1 s.b → bit_xor w s.c2 ≡ c3 s
  unfolding c3 ◌⊕◌
  placed e = rw e

  pub place_byte : {p : ℕ} → p ≡ c3 s → Fits w8 p
  place_byte e = record { fits = omega (arith, place_below _ e) }
