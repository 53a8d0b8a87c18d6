-- The four steps of a round, FIPS 197, section 5.1.
use Rattle.std.specs.Prelude.{ℕ, ◌+◌, ◌%◌}
use Rattle.bits.specs.Xor.{◌⊕◌}
use Rattle.table.specs.Balanced.{at}
use Rattle.sbox.specs.Field.{times}
use Rattle.sbox.specs.Sbox.{sbox}
use Rattle.aes.specs.State.{Word, State, four, column, byte, state_of, add_words}

-- each byte becomes the S-box's entry
unfoldable pub sub_bytes : State → State
sub_bytes s = state_of (λ r c. at sbox (byte s r c))

-- row r moves r places to the left
unfoldable pub shift_rows : State → State
shift_rows s = state_of (λ r c. byte s r ((c + r) % 4))

-- the byte of row r: {02}·s[r] ⊕ {03}·s[r+1] ⊕ s[r+2] ⊕ s[r+3], with rows modulo 4
unfoldable pub mixed_byte : Word → (r : ℕ) → ℕ
mixed_byte w r = times 2 (at w r) ⊕ times 3 (at w ((r + 1) % 4)) ⊕ at w ((r + 2) % 4) ⊕ at w ((r + 3) % 4)

unfoldable pub mix_column : Word → Word
mix_column w = four (mixed_byte w)

unfoldable pub mix_columns : State → State
mix_columns s = four (λ c. mix_column (column s c))

-- column by column, with the words of the round key
unfoldable pub add_round_key : State → (key : State) → State
add_round_key s k = four (λ c. add_words (column s c) (column k c))
