-- The round keys' shares join to the round keys.
use mathlib.Core.Path.{◌≡◌, ap, ◌∙◌}
use mathlib.Core.List.{List, [], ◌∷◌}
use Prim.Native.Nat.{ℕ, zero, suc, ◌+◌, ◌*◌, ◌%◌, ◌<◌}
use native.Mathlib.Omega.{arith}
use Rattle.bits.specs.Xor.{◌⊕◌}
use Rattle.bits.proofs.Xor.{xors}
use Rattle.table.specs.Balanced.{at}
use Rattle.sbox.specs.Sbox.{sbox}
use Rattle.aes.specs.State.{Word, four, column, byte, state_of, add_words, Bytes}
use Rattle.aes.specs.Expansion.{rot_word, sub_word, rcon, next_words, next_key}
use Rattle.aes.proofs.States.{four_equal, equal_states}
use Rattle.frame_lookups.specs.Shares.{Shares, share, joined}
use Rattle.frame_lookups.specs.Lookups.{position, answered, word_answers, word_masks}
use Rattle.frame_rounds.specs.Rounds.{last_word, next_key_shares}
use Rattle.frame_rounds.proofs.Joining.{AllBytes, joint, answered_joins}

-- a byte of the next words: the sum of those up to it, and of what goes into the first
unfoldable pub word_sum : (key : ℕ → ℕ → ℕ) → (changed : ℕ → ℕ) → (r c : ℕ) → ℕ
word_sum key changed r zero = key r 0 ⊕ changed r
word_sum key changed r (suc c) = key r (suc c) ⊕ word_sum key changed r c

joined_words : (key : Shares) (u v w : Word)
    → joined (next_words (share key 0) u ∷ next_words (share key 1) v ∷ next_words (share key 2) w ∷ [])
    ≡ next_words (joined key) (four (λ r. at u r ⊕ at v r ⊕ at w r))
unfolding joined next_words add_words state_of four joint word_sum byte column at share
joined_words key u v w =
    equal_states
    (λ r c. word_sum (byte (share key 0)) (at u) r c ⊕ word_sum (byte (share key 1)) (at v) r c ⊕ word_sum (byte (share key 2)) (at w) r c)
    (word_sum (joint key) (λ r. at u r ⊕ at v r ⊕ at w r)) one_byte
  where
    one_byte : (r c : ℕ)
        → word_sum (byte (share key 0)) (at u) r c ⊕ word_sum (byte (share key 1)) (at v) r c ⊕ word_sum (byte (share key 2)) (at w) r c
        ≡ word_sum (joint key) (λ r. at u r ⊕ at v r ⊕ at w r) r c
    one_byte r zero = simp xors
    one_byte r (suc c) = rw (← one_byte r c) (simp xors)

module _ (random : List ℕ) (small : (i : ℕ) → at random i < 256) where
  -- what goes into the first word: the lookups of the rotated word, and the round constant in the first share
  joined_change : (p i : ℕ) (key : Shares) → AllBytes key
      → four (λ r. at (add_words (word_answers random p (last_word key 0) (last_word key 1) (last_word key 2)) (rcon i)) r
      ⊕ at (word_masks random p) r ⊕ at (word_masks random (p + 1)) r)
      ≡ add_words (sub_word (rot_word (column (joined key) 3))) (rcon i)
  unfolding last_word word_answers word_masks add_words sub_word rot_word joined joint state_of four byte column at share AllBytes Bytes
  joined_change p i key h =
      four_equal
      (λ r. answered random (p + 3 * r) (byte (share key 0) ((r + 1) % 4) 3) (byte (share key 1) ((r + 1) % 4) 3) (byte (share key 2) ((r + 1) % 4) 3)
      ⊕ at (rcon i) r ⊕ at random (p + 3 * r) ⊕ at random (p + 1 + 3 * r))
      (λ r. at sbox (joint key ((r + 1) % 4) 3) ⊕ at (rcon i) r) one_byte
    where
      one_byte : (r : ℕ)
          → answered random (p + 3 * r) (byte (share key 0) ((r + 1) % 4) 3) (byte (share key 1) ((r + 1) % 4) 3) (byte (share key 2) ((r + 1) % 4) 3)
          ⊕ at (rcon i) r ⊕ at random (p + 3 * r) ⊕ at random (p + 1 + 3 * r)
          ≡ at sbox (joint key ((r + 1) % 4) 3) ⊕ at (rcon i) r
      one_byte r =
          let second : p + 1 + 3 * r ≡ p + 3 * r + 1 = omega arith in
          rw (
            second,
            ← answered_joins random small (p + 3 * r) (byte (share key 0) ((r + 1) % 4) 3) _ _ (h 1 ((r + 1) % 4) 3)
                (h 2 ((r + 1) % 4) 3),
          ) (simp xors)

  pub joined_next : (i : ℕ) (key : Shares) → AllBytes key → joined (next_key_shares random i key) ≡ next_key i (joined key)
  unfolding next_key_shares next_key
  joined_next i key h = joined_words key _ _ _ ∙ ap (next_words (joined key)) (joined_change (position i 0) i key h)
