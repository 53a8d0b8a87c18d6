-- Shares are bytes, and every step makes bytes of bytes.
use mathlib.Core.Path.{refl}
use mathlib.Core.List.{List, [], ◌∷◌}
use Prim.Native.Nat.{ℕ, zero, suc, ◌+◌, ◌*◌, ◌%◌, ◌<◌}
use borrow.Author.Tests.{ltb-true}
use lib.Dec.{lit<, ltb}
use Rattle.bits.specs.Xor.{◌⊕◌}
use Rattle.bits.proofs.Xor.{below}
use Rattle.table.specs.Balanced.{at, all_below}
use Rattle.table.proofs.Balanced as tables
use Rattle.sbox.specs.Field.{xtime}
use Rattle.sbox.proofs.Sbox.{sbox_below}
use Rattle.aes.specs.State.{Word, State, four, column, byte, state_of, word_from, state_from, add_words, Bytes}
use Rattle.aes.specs.Steps.{shift_rows, mixed_byte, mix_column, mix_columns, add_round_key}
use Rattle.aes.specs.Expansion.{x_power, rot_word, rcon, next_words}
use Rattle.aes.proofs.Linear.{two_byte, three_byte}
use Rattle.aes.proofs.States.{word_bytes, state_bytes}
use Rattle.frame_lookups.specs.Shares.{Shares, share, three, each_share, with_each_share}
use Rattle.frame_lookups.specs.Lookups.{position, answered, word_answers, word_masks, column_answers, state_answers, state_masks, sub_shares}
use Rattle.frame_rounds.specs.Rounds.{last_word, next_key_shares, split_plaintext}
use Rattle.frame_rounds.proofs.Joining.{AllBytes, answered_is}
use Rattle.frame_rounds.proofs.Keys.{word_sum}

-- of three shares and past them
pub shares_bytes : (a b c : State) → Bytes a → Bytes b → Bytes c → AllBytes (a ∷ b ∷ c ∷ [])
unfolding AllBytes Bytes share byte column at
shares_bytes a b c h k l zero = h
shares_bytes a b c h k l (suc zero) = k
shares_bytes a b c h k l (suc (suc zero)) = l
shares_bytes a b c h k l (suc (suc (suc n))) = λ r j. lit< tt

-- a step on each share
pub each_bytes : (step : State → State) → ((s : State) → Bytes s → Bytes (step s)) → (s : Shares) → AllBytes s → AllBytes (each_share step s)
unfolding each_share three AllBytes
each_bytes step kept s h = shares_bytes _ _ _ (kept _ (h 0)) (kept _ (h 1)) (kept _ (h 2))

pub shift_bytes : (s : State) → Bytes s → Bytes (shift_rows s)
unfolding Bytes shift_rows
shift_bytes s h = state_bytes _ (λ r c. h r ((c + r) % 4))

pub mix_bytes : (s : State) → Bytes s → Bytes (mix_columns s)
unfolding Bytes mix_columns mix_column mixed_byte state_of byte
mix_bytes s h =
    state_bytes (λ r c. mixed_byte (column s c) r)
    (λ r c. below 8 (below 8 (below 8 (two_byte _ (h r c)) (three_byte _ (h ((r + 1) % 4) c))) (h ((r + 2) % 4) c)) (h ((r + 3) % 4) c))

add_bytes : (s k : State) → Bytes s → Bytes k → Bytes (add_round_key s k)
unfolding Bytes add_round_key add_words state_of byte
add_bytes s k h l = state_bytes (λ r c. at (column s c) r ⊕ at (column k c) r) (λ r c. below 8 (h r c) (l r c))

pub added_bytes : (s k : Shares) → AllBytes s → AllBytes k → AllBytes (with_each_share add_round_key s k)
unfolding with_each_share three AllBytes
added_bytes s k h l =
    shares_bytes _ _ _ (add_bytes _ _ (h 0) (l 0)) (add_bytes _ _ (h 1) (l 1)) (add_bytes _ _ (h 2) (l 2))

-- the round constants
xtime_byte : (a : ℕ) → a < 256 → xtime a < 256
unfolding xtime all_below ◌⊕◌
xtime_byte a h = ltb-true _ 256 (tables.below 256 (λ b. ltb (xtime b) 256) refl a h)

power_byte : (k : ℕ) → x_power k < 256
unfolding x_power
power_byte zero = lit< tt
power_byte (suc k) = xtime_byte (x_power k) (power_byte k)

rcon_bytes : (i r : ℕ) → at (rcon i) r < 256
unfolding rcon at
rcon_bytes i zero = power_byte i
rcon_bytes i (suc zero) = lit< tt
rcon_bytes i (suc (suc zero)) = lit< tt
rcon_bytes i (suc (suc (suc zero))) = lit< tt
rcon_bytes i (suc (suc (suc (suc r)))) = lit< tt

words_bytes : (k : State) (changed : Word) → Bytes k → ((r : ℕ) → at changed r < 256) → Bytes (next_words k changed)
unfolding Bytes next_words add_words state_of four byte word_sum at
words_bytes k changed h l = state_bytes (word_sum (byte k) (at changed)) one_byte
  where
    one_byte : (r c : ℕ) → word_sum (byte k) (at changed) r c < 256
    one_byte r zero = below 8 (h r 0) (l r)
    one_byte r (suc c) = below 8 (h r (suc c)) (one_byte r c)

module _ (random : List ℕ) (small : (i : ℕ) → at random i < 256) where
  answered_byte : (p x0 r1 r2 : ℕ) → r1 < 256 → r2 < 256 → answered random p x0 r1 r2 < 256
  answered_byte p x0 r1 r2 h k = rw (answered_is random small p x0 r1 r2 h k) (below 8 (below 8 (sbox_below _) (small p)) (small (p + 1)))

  masks_bytes : (p : ℕ) → Bytes (state_masks random p)
  unfolding Bytes state_masks word_masks state_of
  masks_bytes p = state_bytes (λ r c. at random (p + 12 * c + 3 * r)) (λ r c. small _)

  pub sub_shares_bytes : (p : ℕ) (s : Shares) → AllBytes s → AllBytes (sub_shares random p s)
  unfolding sub_shares AllBytes Bytes state_answers column_answers word_answers state_of byte
  sub_shares_bytes p s h = shares_bytes _ _ _ answers_bytes (masks_bytes p) (masks_bytes (p + 1))
    where
      answers_bytes : Bytes (state_answers random p s)
      answers_bytes =
          state_bytes (λ r c. answered random (p + 12 * c + 3 * r) (byte (share s 0) r c) (byte (share s 1) r c) (byte (share s 2) r c))
          (λ r c. answered_byte _ _ _ _ (h 1 r c) (h 2 r c))

  from_bytes : (k : ℕ) → Bytes (state_from random k)
  unfolding Bytes state_from word_from state_of
  from_bytes k = state_bytes (λ r c. at random (k + 4 * c + r)) (λ r c. small _)

  pub split_bytes : (p : State) → Bytes p → AllBytes (split_plaintext random p)
  unfolding split_plaintext
  split_bytes p h = shares_bytes _ _ _ (add_bytes _ _ (add_bytes _ _ h (from_bytes 0)) (from_bytes 16)) (from_bytes 0) (from_bytes 16)

  word_masks_bytes : (p r : ℕ) → at (word_masks random p) r < 256
  unfolding word_masks
  word_masks_bytes p = word_bytes _ (λ r. small _)

  changed_bytes : (p i : ℕ) (key : Shares) → AllBytes key → (r : ℕ)
      → at (add_words (word_answers random p (last_word key 0) (last_word key 1) (last_word key 2)) (rcon i)) r < 256
  unfolding add_words word_answers last_word rot_word byte AllBytes Bytes
  changed_bytes p i key h =
      word_bytes _ (λ r. below 8 (word_bytes _ (λ r. answered_byte _ _ _ _ (turned 1 r) (turned 2 r)) r) (rcon_bytes i r))
    where
      turned : (k r : ℕ) → at (rot_word (column (share key k) 3)) r < 256
      turned k = word_bytes _ (λ r. h k ((r + 1) % 4) 3)

  pub next_key_bytes : (i : ℕ) (key : Shares) → AllBytes key → AllBytes (next_key_shares random i key)
  unfolding next_key_shares AllBytes
  next_key_bytes i key h =
      let p = position i 0 in
      shares_bytes _ _ _ (words_bytes _ _ (h 0) (changed_bytes p i key h)) (words_bytes _ _ (h 1) (word_masks_bytes p))
      (words_bytes _ _ (h 2) (word_masks_bytes (p + 1)))
