-- What the code makes of three shares' results is what the definitions make.
use mathlib.Core.Path.{◌≡◌}
use mathlib.Core.List.{List, [], ◌∷◌}
use Prim.Native.Nat.{ℕ, ◌+◌}
use lib.ListN.{get_or}
use Rattle.aes.specs.State.{Word, State, column, add_words}
use Rattle.aes.specs.Steps.{shift_rows, mix_columns, add_round_key}
use Rattle.aes.specs.Expansion.{rot_word, rcon, next_words}
use Rattle.frame_lookups.specs.Shares.{Shares, share, three, each_share, with_each_share}
use Rattle.frame_lookups.specs.Lookups.{position, word_answers, word_masks, state_answers, state_masks, sub_shares}
use Rattle.frame_rounds.specs.Rounds.{last_word, next_key_shares, substituted, mixing_round}

pub three_made : (rule : ℕ → State) (a b c : State) → a ≡ rule 0 → b ≡ rule 1 → c ≡ rule 2 → ◌≡◌ {A = Shares} (a ∷ b ∷ c ∷ []) (three rule)
unfolding three
three_made rule a b c e f g = rw (e, f, g)

pub next_key_made : (random : List ℕ) (i p : ℕ) (key : Shares) (u v w answers constant changed m1 m2 : Word) (k0 k1 k2 : State)
    → p ≡ position i 0
    → u ≡ rot_word (get_or (get_or key 0 []) 3 []) → v ≡ rot_word (get_or (get_or key 1 []) 3 []) → w ≡ rot_word (get_or (get_or key 2 []) 3 [])
    → answers ≡ word_answers random p u v w → constant ≡ rcon i → changed ≡ add_words answers constant
    → m1 ≡ word_masks random p → m2 ≡ word_masks random (p + 1)
    → k0 ≡ next_words (get_or key 0 []) changed → k1 ≡ next_words (get_or key 1 []) m1 → k2 ≡ next_words (get_or key 2 []) m2
    → ◌≡◌ {A = Shares} (k0 ∷ k1 ∷ k2 ∷ []) (next_key_shares random i key)
unfolding next_key_shares last_word share column
next_key_made random i p key u v w answers constant changed m1 m2 k0 k1 k2 ep eu ev ew ea ec eg em en e0 e1 e2 =
    rw (e0, e1, e2, eg, ea, ec, em, en, eu, ev, ew, ep)

pub substituted_made : (random : List ℕ) (i p : ℕ) (s : Shares) (answers m1 m2 s0 s1 s2 : State) → p ≡ position i 4
    → answers ≡ state_answers random p s → m1 ≡ state_masks random p → m2 ≡ state_masks random (p + 1)
    → s0 ≡ shift_rows answers → s1 ≡ shift_rows m1 → s2 ≡ shift_rows m2
    → ◌≡◌ {A = Shares} (s0 ∷ s1 ∷ s2 ∷ []) (substituted random i s)
unfolding substituted sub_shares each_share three share
substituted_made random i p s answers m1 m2 s0 s1 s2 ep ea em en e0 e1 e2 = rw (e0, e1, e2, ea, em, en, ep)

pub mixing_made : (random : List ℕ) (i : ℕ) (s key t r : Shares) (m0 m1 m2 : State) → t ≡ substituted random i s
    → m0 ≡ mix_columns (get_or t 0 []) → m1 ≡ mix_columns (get_or t 1 []) → m2 ≡ mix_columns (get_or t 2 [])
    → r ≡ with_each_share add_round_key (m0 ∷ m1 ∷ m2 ∷ []) key
    → r ≡ mixing_round random i s key
unfolding mixing_round each_share three share
mixing_made random i s key t r m0 m1 m2 et e0 e1 e2 er = rw (er, e0, e1, e2, et)
