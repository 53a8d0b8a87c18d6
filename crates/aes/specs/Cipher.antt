-- The cipher of FIPS 197, section 5.1, for ten rounds.
use Rattle.std.specs.Prelude.{ℕ, zero, suc}
use Rattle.aes.specs.State.{State}
use Rattle.aes.specs.Steps.{sub_bytes, shift_rows, mix_columns, add_round_key}
use Rattle.aes.specs.Expansion.{round_key}

-- the state after the first key addition and this many of the rounds that mix columns
unfoldable pub state_after : (rounds : ℕ) → (input key : State) → State
state_after zero input key = add_round_key input key
state_after (suc i) input key =
    add_round_key (mix_columns (shift_rows (sub_bytes (state_after i input key)))) (round_key key (suc i))

-- nine such rounds, and a last one that mixes no columns
unfoldable pub cipher : (input key : State) → State
cipher input key = add_round_key (shift_rows (sub_bytes (state_after 9 input key))) (round_key key 10)
