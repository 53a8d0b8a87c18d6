-- The products of column mixing are additive: what is mixed share by share joins to what is mixed. And they are bytes again.
use mathlib.Core.Path.{◌≡◌, refl, sym, ◌∙◌}
use Prim.Native.Nat.{ℕ, zero, suc, ◌*◌, ◌/◌, ◌<◌}
use native.Mathlib.Nat.{add-zero}
use native.Mathlib.Omega.{arith}
use lib.Bits.{xor_shr}
use lib.Dec.{lit<}
use Rattle.bits.specs.Xor.{◌⊕◌}
use Rattle.bits.proofs.Xor.{xors, self, below, pair}
use Rattle.sbox.specs.Field.{times}
use Rattle.aes.proofs.Products.{doubled, doubles, triples, doubled_fits}

twice : (a b : ℕ) → (a ⊕ b) * 2 ≡ a * 2 ⊕ b * 2
twice a b = sym (rw (add-zero (a * 2), add-zero (b * 2), self 0, add-zero ((a ⊕ b) * 2)) at (pair a b 0 0 (lit< tt) (lit< tt)))

ninth : (a b : ℕ) → (a ⊕ b) / 256 ≡ (a / 256) ⊕ (b / 256)
unfolding ◌⊕◌
ninth a b = xor_shr a b 8

-- the polynomial for either of two bits
either : (g h : ℕ) → g < 2 → h < 2 → (g ⊕ h) * 0x11b ≡ g * 0x11b ⊕ h * 0x11b
unfolding ◌⊕◌
either zero h k l = refl
either (suc zero) zero k l = refl
either (suc zero) (suc zero) k l = refl
either (suc zero) (suc (suc h)) k l = absurd (omega arith)
either (suc (suc g)) h k l = absurd (omega arith)

doubled_adds : (a b : ℕ) → a < 256 → b < 256 → doubled (a ⊕ b) ≡ doubled a ⊕ doubled b
unfolding doubled
doubled_adds a b h k =
    rw (twice a b, ninth (a * 2) (b * 2), either (a * 2 / 256) (b * 2 / 256) (omega arith) (omega arith)) (simp xors)

pub two_adds : (a b : ℕ) → a < 256 → b < 256 → times 2 (a ⊕ b) ≡ times 2 a ⊕ times 2 b
two_adds a b h k = sym (doubles (a ⊕ b) (below 8 h k)) ∙ doubled_adds a b h k ∙ rw (doubles a h, doubles b k)

pub three_adds : (a b : ℕ) → a < 256 → b < 256 → times 3 (a ⊕ b) ≡ times 3 a ⊕ times 3 b
three_adds a b h k = sym (triples (a ⊕ b) (below 8 h k)) ∙ rw (two_adds a b h k, ← triples a h, ← triples b k) (simp xors)

pub two_byte : (a : ℕ) → a < 256 → times 2 a < 256
unfolding doubled ◌⊕◌
two_byte a h = rw (← doubles a h) (doubled_fits a h).fits

pub three_byte : (a : ℕ) → a < 256 → times 3 a < 256
three_byte a h = rw (← triples a h) (below 8 (two_byte a h) h)
