-- The rounds of a frame, in three shares, as FIPS 197 has them on states. Rounds are counted from 0. Of a round's twenty lookups, the
-- first four are of the rotated key word, the others of the state.
use Rattle.std.specs.Prelude.{List, [], ◌∷◌, ℕ, zero, suc, ◌+◌}
use Rattle.aes.specs.State.{Word, State, column, state_from, add_words}
use Rattle.aes.specs.Steps.{shift_rows, mix_columns, add_round_key}
use Rattle.aes.specs.Expansion.{rot_word, rcon, next_words}
use Rattle.frame_lookups.specs.Shares.{Shares, share, each_share, with_each_share}
use Rattle.frame_lookups.specs.Lookups.{position, word_answers, word_masks, sub_shares}

-- the plaintext with its masks added one after the other, and the masks: 16 bytes of r1, then 16 of r2
unfoldable pub split_plaintext : (random : List ℕ) → (plaintext : State) → Shares
split_plaintext random p =
    let r1 : State = state_from random 0 in
    let r2 : State = state_from random 16 in
    add_round_key (add_round_key p r1) r2 ∷ r1 ∷ r2 ∷ []

-- the rotated last word of a share
unfoldable pub last_word : Shares → (number : ℕ) → Word
last_word key k = rot_word (column (share key k) 3)

-- the next round key; the round constant goes to the first share
unfoldable pub next_key_shares : (random : List ℕ) → (i : ℕ) → (key : Shares) → Shares
next_key_shares random i key =
    let p = position i 0 in
    next_words (share key 0) (add_words (word_answers random p (last_word key 0) (last_word key 1) (last_word key 2)) (rcon i))
    ∷ next_words (share key 1) (word_masks random p)
    ∷ next_words (share key 2) (word_masks random (p + 1))
    ∷ []

unfoldable pub key_shares : (random : List ℕ) → (key : Shares) → (i : ℕ) → Shares
key_shares random key zero = key
key_shares random key (suc i) = next_key_shares random i (key_shares random key i)

-- the state's sixteen lookups, and the rows shifted
unfoldable pub substituted : (random : List ℕ) → (i : ℕ) → Shares → Shares
substituted random i s = each_share shift_rows (sub_shares random (position i 4) s)

-- a round that mixes columns, and the last one, which does not
unfoldable pub mixing_round : (random : List ℕ) → (i : ℕ) → (state key : Shares) → Shares
mixing_round random i s key = with_each_share add_round_key (each_share mix_columns (substituted random i s)) key

unfoldable pub last_round : (random : List ℕ) → (i : ℕ) → (state key : Shares) → Shares
last_round random i s key = with_each_share add_round_key (substituted random i s) key

-- from a state that has the key added: this many rounds that mix columns
unfoldable pub shares_after : (rounds : ℕ) → (random : List ℕ) → (state key : Shares) → Shares
shares_after zero random s key = s
shares_after (suc i) random s key = mixing_round random i (shares_after i random s key) (key_shares random key (suc i))

-- all ten
unfoldable pub ten_rounds : (random : List ℕ) → (state key : Shares) → Shares
ten_rounds random s key = last_round random 9 (shares_after 9 random s key) (key_shares random key 10)

unfoldable pub frame_shares : (random : List ℕ) → (plaintext : State) → (key : Shares) → Shares
frame_shares random p key = ten_rounds random (with_each_share add_round_key (split_plaintext random p) key) key
