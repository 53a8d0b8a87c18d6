-- The shares of a frame join to what FIPS 197 makes: round by round, and the whole.
use mathlib.Core.Path.{◌≡◌, refl, ap, ◌∙◌}
use mathlib.Core.List.{List}
use Prim.Native.Nat.{ℕ, zero, suc, ◌<◌}
use Rattle.bits.specs.Xor.{◌⊕◌}
use Rattle.bits.proofs.Xor.{xors}
use Rattle.table.specs.Balanced.{at}
use Rattle.aes.specs.State.{State, four, column, byte, state_of, state_from, add_words, Bytes}
use Rattle.aes.specs.Steps.{sub_bytes, shift_rows, mix_columns, add_round_key}
use Rattle.aes.specs.Expansion.{next_key, round_key}
use Rattle.aes.specs.Cipher.{state_after, cipher}
use Rattle.aes.proofs.States.{equal_states}
use Rattle.frame_lookups.specs.Shares.{Shares, share, each_share, with_each_share, joined}
use Rattle.frame_lookups.specs.Lookups.{position}
use Rattle.frame_rounds.specs.Rounds.{split_plaintext, key_shares, substituted, mixing_round, last_round, shares_after, ten_rounds, frame_shares}
use Rattle.frame_rounds.proofs.Joining.{AllBytes, joined_shift, joined_add, joined_mix, joined_sub}
use Rattle.frame_rounds.proofs.Keys.{joined_next}
use Rattle.frame_rounds.proofs.Bytes.{each_bytes, shift_bytes, mix_bytes, added_bytes, sub_shares_bytes, split_bytes, next_key_bytes}

-- the plaintext's masks cancel
unmasked : (random : List ℕ) (p k : State) → add_round_key (joined (split_plaintext random p)) k ≡ add_round_key p k
unfolding split_plaintext joined share add_round_key add_words state_of byte column four at
unmasked random p k =
    let r1 : State = state_from random 0 in
    let r2 : State = state_from random 16 in
    equal_states (λ r c. byte p r c ⊕ byte r1 r c ⊕ byte r2 r c ⊕ byte r1 r c ⊕ byte r2 r c ⊕ byte k r c) (λ r c. byte p r c ⊕ byte k r c)
    (λ r c. simp xors)

module _ (random : List ℕ) (small : (i : ℕ) → at random i < 256) where
  -- the lookups and the row shifting
  sub_bytes_kept : (i : ℕ) (s : Shares) → AllBytes s → AllBytes (substituted random i s)
  unfolding substituted
  sub_bytes_kept i s h = each_bytes shift_rows shift_bytes _ (sub_shares_bytes random small (position i 4) s h)

  sub_joins : (i : ℕ) (s : Shares) → AllBytes s → joined (substituted random i s) ≡ shift_rows (sub_bytes (joined s))
  unfolding substituted
  sub_joins i s h = joined_shift _ ∙ ap shift_rows (joined_sub random small (position i 4) s h)

  module _ (key : Shares) (keyed : AllBytes key) where
    key_bytes : (i : ℕ) → AllBytes (key_shares random key i)
    unfolding key_shares
    key_bytes zero = keyed
    key_bytes (suc i) = next_key_bytes random small i _ (key_bytes i)

    key_joins : (i : ℕ) → joined (key_shares random key i) ≡ round_key (joined key) i
    unfolding key_shares round_key
    key_joins zero = refl
    key_joins (suc i) = joined_next random small i _ (key_bytes i) ∙ ap (next_key i) (key_joins i)

    module _ (p : State) (s : Shares) (begun : AllBytes s) (first : joined s ≡ add_round_key p (joined key)) where
      round_bytes : (i : ℕ) → AllBytes (shares_after i random s key)
      unfolding shares_after mixing_round
      round_bytes zero = begun
      round_bytes (suc i) = added_bytes _ _ (each_bytes mix_columns mix_bytes _ (sub_bytes_kept i _ (round_bytes i))) (key_bytes (suc i))

      round_joins : (i : ℕ) → joined (shares_after i random s key) ≡ state_after i p (joined key)
      unfolding shares_after mixing_round state_after
      round_joins zero = first
      round_joins (suc i) =
          let before = shares_after i random s key in
          let mixed : joined (each_share mix_columns (substituted random i before)) ≡ mix_columns (shift_rows (sub_bytes (state_after i p (joined key))))
          = joined_mix _ (sub_bytes_kept i before (round_bytes i)) ∙ ap mix_columns (sub_joins i before (round_bytes i))
          ∙ ap (λ t. mix_columns (shift_rows (sub_bytes t))) (round_joins i) in
          joined_add _ _ ∙ rw (mixed, key_joins (suc i))

      ten_join : joined (ten_rounds random s key) ≡ cipher p (joined key)
      unfolding ten_rounds last_round cipher
      ten_join =
          let before = shares_after 9 random s key in
          joined_add _ _ ∙ rw (sub_joins 9 before (round_bytes 9), round_joins 9, key_joins 10)

    -- the plaintext's shares, with the key added to each
    begins : (p : State) → joined (with_each_share add_round_key (split_plaintext random p) key) ≡ add_round_key p (joined key)
    begins p = joined_add _ _ ∙ unmasked random p (joined key)

    pub frame_joins : (p : State) → Bytes p → joined (frame_shares random p key) ≡ cipher p (joined key)
    unfolding frame_shares
    frame_joins p h = ten_join p _ (added_bytes _ _ (split_bytes random small p h) keyed) (begins p)
