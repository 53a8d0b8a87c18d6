-- What the loop over the rounds keeps: state and key are as the definitions have them after so many rounds.
use mathlib.Core.Path.{◌≡◌, refl, ap, ◌∙◌}
use mathlib.Core.List.{List}
use Prim.Native.Nat.{ℕ, ◌+◌, ◌≤◌, ◌<◌}
use native.Mathlib.Numerals.{add-one}
use native.Mathlib.Omega.{arith}
use lib.ListN.{length}
use Rattle.aes.specs.Steps.{add_round_key}
use Rattle.frame_lookups.specs.Shares.{Shares, with_each_share}
use Rattle.frame_rounds.specs.Rounds.{next_key_shares, key_shares, substituted, mixing_round, last_round, shares_after, ten_rounds}
use Rattle.frame_lookups.specs.Scratch.{cleared}

pub record Turning (random scratch₀ : List ℕ) (s₀ key₀ : Shares) (scratch : List ℕ) (s key : Shares) (i : ℕ) : Type 0 where
  pub state : s ≡ shares_after i random s₀ key₀
  pub round_key : key ≡ key_shares random key₀ i
  pub within : i ≤ 9
  pub long : length scratch ≡ length scratch₀
  pub kept : cleared scratch ≡ cleared scratch₀

module _ (random scratch₀ : List ℕ) (s₀ key₀ : Shares) where
  pub turning_begins : Turning random scratch₀ s₀ key₀ scratch₀ s₀ key₀ 0
  unfolding shares_after key_shares
  turning_begins = record { state = refl; round_key = refl; within = omega arith; long = refl; kept = refl }

  pub turning_turns : (scratch scratch' scratch'' : List ℕ) (s key s' key' : Shares) (i : ℕ) → i < 9
      → key' ≡ next_key_shares random i key → cleared scratch' ≡ cleared scratch → length scratch' ≡ length scratch
      → s' ≡ mixing_round random i s key' → cleared scratch'' ≡ cleared scratch' → length scratch'' ≡ length scratch'
      → Turning random scratch₀ s₀ key₀ scratch s key i → Turning random scratch₀ s₀ key₀ scratch'' s' key' (i + 1)
  unfolding shares_after key_shares
  turning_turns scratch scratch' scratch'' s key s' key' i h ek ck lk es cs ls t =
      let keyed : key' ≡ key_shares random key₀ (i + 1) = rw (add-one i) (ek ∙ ap (next_key_shares random i) t.round_key) in
      record {
        state = rw (add-one i) (es ∙ rw (t.state, keyed, add-one i));
        round_key = keyed;
        within = omega arith;
        long = ls ∙ lk ∙ t.long;
        kept = cs ∙ ck ∙ t.kept;
      }

  pub turning_ends : (scratch : List ℕ) (s key last sub r : Shares) (i : ℕ) → 9 ≤ i
      → last ≡ next_key_shares random 9 key → sub ≡ substituted random 9 s → r ≡ with_each_share add_round_key sub last
      → Turning random scratch₀ s₀ key₀ scratch s key i
      → r ≡ ten_rounds random s₀ key₀
  unfolding ten_rounds last_round key_shares
  turning_ends scratch s key last sub r i h el eu er t =
      let whole : i ≡ 9 = omega (arith, t.within) in
      let state : s ≡ shares_after 9 random s₀ key₀ = rw whole at t.state in
      let keyed : key ≡ key_shares random key₀ 9 = rw whole at t.round_key in
      rw (er, el, eu, state, keyed)

  -- the last round key's lookups, and the last round's
  pub turning_kept : (scratch scratch' scratch'' : List ℕ) (s key : Shares) (i : ℕ) → cleared scratch' ≡ cleared scratch
      → cleared scratch'' ≡ cleared scratch' → Turning random scratch₀ s₀ key₀ scratch s key i → cleared scratch'' ≡ cleared scratch₀
  turning_kept scratch scratch' scratch'' s key i ck cs t = cs ∙ ck ∙ t.kept

  pub turning_room : (scratch : List ℕ) (s key : Shares) (i : ℕ) → 256 ≤ length scratch₀ → Turning random scratch₀ s₀ key₀ scratch s key i
      → 256 ≤ length scratch
  turning_room scratch s key i h t = rw t.long h
