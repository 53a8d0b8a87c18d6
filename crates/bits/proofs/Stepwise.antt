-- Exclusive or, common bits and the count of ones, step by step for a fixed number of bits: the form that docs/DECISIONS.md calls 03's.
-- Within that number of bits they are the exact operations, so nothing that is stated with the exact ones is weaker.
use mathlib.Core.Path.{◌≡◌, refl, sym, ◌∙◌}
use Prim.Native.Nat.{ℕ, zero, suc, ◌+◌, ◌*◌, ◌/◌, ◌%◌, ◌^◌, ◌<◌, min}
use native.Mathlib.Nat.{mul_comm}
use native.Mathlib.Omega.{arith}
use lib.Arith.{lt-one}
use lib.Bits.{bit_and, and_step}
use lib.Count.{ones, ones_step}
use Rattle.bits.specs.Xor.{◌⊕◌}
use Rattle.bits.proofs.Xor.{bit_ind, step, odd_sum}

unfoldable pub xor_from : (fuel a b : ℕ) → ℕ
xor_from zero a b = 0
xor_from (suc k) a b = (a + b) % 2 + 2 * xor_from k (a / 2) (b / 2)

unfoldable pub both_bits : (fuel a b : ℕ) → ℕ
both_bits zero a b = 0
both_bits (suc k) a b = (a % 2) * (b % 2) + 2 * both_bits k (a / 2) (b / 2)

unfoldable pub ones_from : (left v : ℕ) → ℕ
ones_from zero v = 0
ones_from (suc k) v = v % 2 + ones_from k (v / 2)

turned : (high low : ℕ) → high * 2 + low ≡ low + 2 * high
turned high low = omega arith

half_below : (k : ℕ) {a : ℕ} → a < 2 ^ suc k → a / 2 < 2 ^ k
half_below k h = omega arith

common : (a b : ℕ) → (a % 2) * (b % 2) ≡ min (a % 2) (b % 2)
common a b = bit_ind (λ p. p * (b % 2) ≡ min p (b % 2)) (omega arith) (bit_ind (λ q. 1 * q ≡ min 1 q) refl refl b) a

pub xor_from_exact : (k : ℕ) {a b : ℕ} → a < 2 ^ k → b < 2 ^ k → xor_from k a b ≡ a ⊕ b
unfolding xor_from ◌⊕◌
xor_from_exact zero {a} {b} h l = rw (lt-one h, lt-one l)
xor_from_exact (suc k) {a} {b} h l =
    rw (odd_sum a b, xor_from_exact k (half_below k h) (half_below k l)) (sym (step a b ∙ turned _ _))

pub both_bits_exact : (k : ℕ) {a : ℕ} (b : ℕ) → a < 2 ^ k → both_bits k a b ≡ bit_and a b
unfolding both_bits
both_bits_exact zero b h = rw (lt-one h)
both_bits_exact (suc k) {a} b h = rw (common a b, both_bits_exact k (b / 2) (half_below k h)) (sym (and_step a b ∙ turned _ _))

pub both_bits_comm : (k a b : ℕ) → both_bits k a b ≡ both_bits k b a
unfolding both_bits
both_bits_comm zero a b = refl
both_bits_comm (suc k) a b = rw (both_bits_comm k (a / 2) (b / 2), mul_comm (a % 2) (b % 2))

pub ones_from_exact : (k : ℕ) {v : ℕ} → v < 2 ^ k → ones_from k v ≡ ones v
unfolding ones_from ones
ones_from_exact zero {v} h = rw (lt-one h)
ones_from_exact (suc k) {v} h = rw (ones_from_exact k (half_below k h)) (sym (ones_step v))
