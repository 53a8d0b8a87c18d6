-- The key expansion for a key of four words, FIPS 197, section 5.2: round key i is w[4i], w[4i+1], w[4i+2], w[4i+3].
use Rattle.std.specs.Prelude.{[], ◌∷◌, ℕ, zero, suc, ◌+◌, ◌/◌, ◌%◌}
use Rattle.table.specs.Balanced.{at}
use Rattle.sbox.specs.Field.{xtime}
use Rattle.sbox.specs.Sbox.{sbox}
use Rattle.aes.specs.State.{Word, State, four, column, add_words}

-- [a0, a1, a2, a3] becomes [a1, a2, a3, a0]
unfoldable pub rot_word : Word → Word
rot_word w = four (λ r. at w ((r + 1) % 4))

unfoldable pub sub_word : Word → Word
sub_word w = four (λ r. at sbox (at w r))

-- x to the power of k, in the field
unfoldable pub x_power : ℕ → ℕ
x_power zero = 1
x_power (suc k) = xtime (x_power k)

-- Rcon[i + 1]: [x^i, 0, 0, 0]
unfoldable pub rcon : ℕ → Word
rcon i = x_power i ∷ 0 ∷ 0 ∷ 0 ∷ []

-- four words more: the first is w[4i] ⊕ SubWord(RotWord(w[4i+3])) ⊕ Rcon[i+1], and each later one is the word before it ⊕ the one four before.
-- The last word, as it goes into the first, is a parameter: shares have it substituted otherwise.
unfoldable pub next_words : State → (changed : Word) → State
next_words k changed =
    let w0 : Word = add_words (column k 0) changed in
    let w1 : Word = add_words (column k 1) w0 in
    let w2 : Word = add_words (column k 2) w1 in
    let w3 : Word = add_words (column k 3) w2 in
    w0 ∷ w1 ∷ w2 ∷ w3 ∷ []

unfoldable pub next_key : (i : ℕ) → State → State
next_key i k = next_words k (add_words (sub_word (rot_word (column k 3))) (rcon i))

unfoldable pub round_key : (key : State) → (i : ℕ) → State
round_key key zero = key
round_key key (suc i) = next_key i (round_key key i)

-- w[i]
unfoldable pub word : (key : State) → (i : ℕ) → Word
word key i = column (round_key key (i / 4)) (i % 4)
