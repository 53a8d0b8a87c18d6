-- Joining commutes with each step of a round: what a step does to three shares joins to what it does to the state.
use mathlib.Core.Path.{◌≡◌, refl, ◌∙◌}
use mathlib.Core.List.{List}
use Prim.Native.Nat.{ℕ, ◌+◌, ◌*◌, ◌%◌, ◌<◌}
use native.Mathlib.Omega.{arith}
use Rattle.bits.specs.Xor.{◌⊕◌}
use Rattle.bits.proofs.Xor.{xors, below}
use Rattle.table.specs.Balanced.{at}
use Rattle.sbox.specs.Field.{times}
use Rattle.sbox.specs.Sbox.{sbox}
use Rattle.lookup.specs.Case.{Q}
use Rattle.lookup.specs.Row.{masked}
use Rattle.lookup.proofs.Second.{answer_2_is}
use Rattle.aes.specs.State.{State, four, column, byte, state_of, add_words, Bytes}
use Rattle.aes.specs.Steps.{sub_bytes, shift_rows, mixed_byte, mix_column, mix_columns, add_round_key}
use Rattle.aes.proofs.Linear.{two_adds, three_adds}
use Rattle.aes.proofs.States.{equal_states}
use Rattle.frame_lookups.specs.Shares.{Shares, share, three, each_share, with_each_share, joined}
use Rattle.frame_lookups.specs.Lookups.{case_2, case_at, answered, word_answers, word_masks, column_answers, state_answers, state_masks, sub_shares}

-- the bytes of three shares, and what they join to at one place
unfoldable pub AllBytes : Shares → Type 0
AllBytes s = (k : ℕ) → Bytes (share s k)

unfoldable pub joint : Shares → (r c : ℕ) → ℕ
joint s r c = byte (share s 0) r c ⊕ byte (share s 1) r c ⊕ byte (share s 2) r c

pub joined_shift : (s : Shares) → joined (each_share shift_rows s) ≡ shift_rows (joined s)
unfolding joined each_share three share shift_rows state_of byte column four at
joined_shift s = refl

pub joined_add : (s k : Shares) → joined (with_each_share add_round_key s k) ≡ add_round_key (joined s) (joined k)
unfolding joined with_each_share three share add_round_key add_words state_of byte column four at joint
joined_add s k =
    equal_states
    (λ r c. byte (share s 0) r c ⊕ byte (share k 0) r c ⊕ (byte (share s 1) r c ⊕ byte (share k 1) r c) ⊕ (byte (share s 2) r c ⊕ byte (share k 2) r c))
    (λ r c. joint s r c ⊕ joint k r c) (λ r c. simp xors)

-- an additive product of three shares
of_three : (f : ℕ → ℕ) → ((a b : ℕ) → a < 256 → b < 256 → f (a ⊕ b) ≡ f a ⊕ f b) → (a b c : ℕ) → a < 256 → b < 256 → c < 256
    → f (a ⊕ b ⊕ c) ≡ f a ⊕ f b ⊕ f c
of_three f adds a b c h k l = adds (a ⊕ b) c (below 8 h k) l ∙ rw (adds a b h k)

mixed_at : State → (r c : ℕ) → ℕ
mixed_at s r c = times 2 (byte s r c) ⊕ times 3 (byte s ((r + 1) % 4) c) ⊕ byte s ((r + 2) % 4) c ⊕ byte s ((r + 3) % 4) c

pub joined_mix : (s : Shares) → AllBytes s → joined (each_share mix_columns s) ≡ mix_columns (joined s)
unfolding joined each_share three mix_columns mix_column mixed_byte state_of four joint mixed_at AllBytes Bytes byte column at share
joined_mix s h =
    equal_states (λ r c. mixed_at (share s 0) r c ⊕ mixed_at (share s 1) r c ⊕ mixed_at (share s 2) r c)
    (λ r c. times 2 (joint s r c) ⊕ times 3 (joint s ((r + 1) % 4) c) ⊕ joint s ((r + 2) % 4) c ⊕ joint s ((r + 3) % 4) c) one_byte
  where
    one_byte : (r c : ℕ) → mixed_at (share s 0) r c ⊕ mixed_at (share s 1) r c ⊕ mixed_at (share s 2) r c
        ≡ times 2 (joint s r c) ⊕ times 3 (joint s ((r + 1) % 4) c) ⊕ joint s ((r + 2) % 4) c ⊕ joint s ((r + 3) % 4) c
    one_byte r c =
        rw (
          of_three (times 2) two_adds _ _ _ (h 0 r c) (h 1 r c) (h 2 r c),
          of_three (times 3) three_adds _ _ _ (h 0 ((r + 1) % 4) c) (h 1 ((r + 1) % 4) c) (h 2 ((r + 1) % 4) c),
        ) (simp xors)

-- one lookup: its answer and its masks join to the table's entry
module _ (random : List ℕ) (small : (i : ℕ) → at random i < 256) where
  pub answered_is : (p x0 r1 r2 : ℕ) → r1 < 256 → r2 < 256
      → answered random p x0 r1 r2 ≡ at sbox (x0 ⊕ (r1 ⊕ r2)) ⊕ at random p ⊕ at random (p + 1)
  unfolding answered case_at case_2 masked Q
  answered_is p x0 r1 r2 h k = answer_2_is (case_at random p x0 r1 r2) sbox h k (small (p + 2))

  pub answered_joins : (p x0 r1 r2 : ℕ) → r1 < 256 → r2 < 256
      → answered random p x0 r1 r2 ⊕ at random p ⊕ at random (p + 1) ≡ at sbox (x0 ⊕ r1 ⊕ r2)
  answered_joins p x0 r1 r2 h k =
      let index : x0 ⊕ (r1 ⊕ r2) ≡ x0 ⊕ r1 ⊕ r2 = simp xors in
      rw (answered_is p x0 r1 r2 h k, index) (simp xors)

  pub joined_sub : (p : ℕ) (s : Shares) → AllBytes s → joined (sub_shares random p s) ≡ sub_bytes (joined s)
  unfolding joined sub_shares state_answers column_answers word_answers state_masks word_masks sub_bytes AllBytes Bytes joint state_of four byte
      column at share
  joined_sub p s h =
      equal_states
      (λ r c. answered random (p + 12 * c + 3 * r) (byte (share s 0) r c) (byte (share s 1) r c) (byte (share s 2) r c)
      ⊕ at random (p + 12 * c + 3 * r) ⊕ at random (p + 1 + 12 * c + 3 * r))
      (λ r c. at sbox (joint s r c)) one_byte
    where
      one_byte : (r c : ℕ) → answered random (p + 12 * c + 3 * r) (byte (share s 0) r c) (byte (share s 1) r c) (byte (share s 2) r c)
          ⊕ at random (p + 12 * c + 3 * r) ⊕ at random (p + 1 + 12 * c + 3 * r)
          ≡ at sbox (joint s r c)
      one_byte r c =
          let second : p + 1 + 12 * c + 3 * r ≡ p + 12 * c + 3 * r + 1 = omega arith in
          rw second (answered_joins (p + 12 * c + 3 * r) _ _ _ (h 1 r c) (h 2 r c))
