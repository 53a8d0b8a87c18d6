-- The laws of exclusive or: it is associative and commutative, 0 changes nothing, each number undoes itself, and no bit is added.
-- `simp xors` closes an identity of ⊕.
use mathlib.Core.Path.{◌≡◌, refl, sym, ◌∙◌}
use Prim.Native.Nat.{ℕ, zero, suc, ◌+◌, ◌-◌, ◌*◌, ◌/◌, ◌%◌, ◌^◌, ◌<◌}
use native.Mathlib.Nat.{mod-lt, div-add-mod'}
use native.Mathlib.Omega.{arith}
use lib.Dec.{lit<}
use lib.Arith.{bin_ind}
use lib.Bits.{bit_xor, xor_zero_r, xor_comm, xor_self, xor_lt, xor_shr, xor_mod, xor_block}
use Rattle.bits.specs.Xor.{◌⊕◌}

-- what holds of 0 and of 1 holds of every lowest bit
pub bit_ind : (P : ℕ → Type 0) → P 0 → P 1 → (n : ℕ) → P (n % 2)
bit_ind P p q n = bit_ind_by_cases (n % 2) (mod-lt n (lit< tt))
  where
    bit_ind_by_cases : (x : ℕ) → x < 2 → P x
    bit_ind_by_cases zero h = p
    bit_ind_by_cases (suc zero) h = q
    bit_ind_by_cases (suc (suc x)) h = absurd (omega arith)

pub comm : (a b : ℕ) → a ⊕ b ≡ b ⊕ a
unfolding ◌⊕◌
comm = xor_comm

pub self : (a : ℕ) → a ⊕ a ≡ 0
unfolding ◌⊕◌
self = xor_self

pub zero_l : (a : ℕ) → 0 ⊕ a ≡ a
unfolding ◌⊕◌
zero_l a = refl

pub zero_r : (a : ℕ) → a ⊕ 0 ≡ a
unfolding ◌⊕◌
zero_r = xor_zero_r

-- the bits above the lowest k, and the lowest k
pub high_bits : (k a b : ℕ) → (a ⊕ b) / 2 ^ k ≡ (a / 2 ^ k) ⊕ (b / 2 ^ k)
unfolding ◌⊕◌
high_bits k a b = xor_shr a b k

pub low_bits : (k a b : ℕ) → (a ⊕ b) % 2 ^ k ≡ (a % 2 ^ k) ⊕ (b % 2 ^ k)
unfolding ◌⊕◌
low_bits k a b = xor_mod a b k

pub half : (a b : ℕ) → (a ⊕ b) / 2 ≡ (a / 2) ⊕ (b / 2)
half a b = high_bits 1 a b

pub lowest : (a b : ℕ) → (a ⊕ b) % 2 ≡ (a % 2) ⊕ (b % 2)
lowest a b = low_bits 1 a b

pub step : (a b : ℕ) → a ⊕ b ≡ ((a / 2) ⊕ (b / 2)) * 2 + ((a % 2) ⊕ (b % 2))
step a b = sym (div-add-mod' (a ⊕ b) 2) ∙ rw (half a b, lowest a b)

-- the lowest bit of a sum
pub odd_sum : (a b : ℕ) → (a + b) % 2 ≡ (a % 2) ⊕ (b % 2)
unfolding ◌⊕◌
odd_sum a b =
    bit_ind (λ p. a % 2 ≡ p → (a + b) % 2 ≡ bit_xor p (b % 2)) (λ h. omega arith)
    (bit_ind (λ q. b % 2 ≡ q → a % 2 ≡ 1 → (a + b) % 2 ≡ bit_xor 1 q) (λ k h. omega arith) (λ k h. omega arith) b refl) a refl

bits_assoc : (a b c : ℕ) → (a % 2) ⊕ (b % 2) ⊕ (c % 2) ≡ (a % 2) ⊕ ((b % 2) ⊕ (c % 2))
unfolding ◌⊕◌
bits_assoc a b c =
    bit_ind (λ p. p ⊕ (b % 2) ⊕ (c % 2) ≡ p ⊕ ((b % 2) ⊕ (c % 2))) refl
    (bit_ind (λ q. 1 ⊕ q ⊕ (c % 2) ≡ 1 ⊕ (q ⊕ (c % 2))) refl (bit_ind (λ r. 1 ⊕ 1 ⊕ r ≡ 1 ⊕ (1 ⊕ r)) refl refl c) b) a

pub assoc : (a b c : ℕ) → a ⊕ b ⊕ c ≡ a ⊕ (b ⊕ c)
assoc =
    bin_ind (λ a. (b c : ℕ) → a ⊕ b ⊕ c ≡ a ⊕ (b ⊕ c)) (λ b c. simp zero_l)
    (λ a ih b c.
    step (a ⊕ b) c ∙ rw (half a b, lowest a b) (rw (ih (b / 2) (c / 2), bits_assoc a b c) (sym (step a (b ⊕ c) ∙ rw (half b c, lowest b c)))))

pub cancel : (a b : ℕ) → a ⊕ (a ⊕ b) ≡ b
cancel a b = sym (assoc a a b) ∙ rw self (zero_l b)

pub left_comm : (a b c : ℕ) → a ⊕ (b ⊕ c) ≡ b ⊕ (a ⊕ c)
left_comm a b c = sym (assoc a b c) ∙ rw (comm a b) (assoc b a c)

pub ruleset xors = (assoc, comm, left_comm, self, cancel, zero_l, zero_r)

-- two numbers of a width give one of that width
pub below : (n : ℕ) {a b : ℕ} → a < 2 ^ n → b < 2 ^ n → a ⊕ b < 2 ^ n
unfolding ◌⊕◌
below n {a} {b} h k = xor_lt n a b h k

-- the lowest bits and the bits above them go apart
pub pair : (a b r s : ℕ) → r < 2 → s < 2 → (a * 2 + r) ⊕ (b * 2 + s) ≡ (a ⊕ b) * 2 + (r ⊕ s)
unfolding ◌⊕◌
pair a b r s = xor_block 1 a b r s

-- two different bits, and the other bit than one
pub different_bits : (a b : ℕ) → a < 2 → b < 2 → (a ≡ b → ⊥) → a ⊕ b ≡ 1
unfolding ◌⊕◌
different_bits zero zero h k l = absurd (l refl)
different_bits zero (suc zero) h k l = refl
different_bits zero (suc (suc b)) h k l = absurd (omega arith)
different_bits (suc zero) zero h k l = refl
different_bits (suc zero) (suc zero) h k l = absurd (l refl)
different_bits (suc zero) (suc (suc b)) h k l = absurd (omega arith)
different_bits (suc (suc a)) b h k l = absurd (omega arith)

pub other_bit : (a : ℕ) → a < 2 → a ⊕ 1 ≡ 1 - a
unfolding ◌⊕◌
other_bit zero h = refl
other_bit (suc zero) h = refl
other_bit (suc (suc a)) h = absurd (omega arith)
