-- What a frame hands back and leaves in the scratch, refused and accepted, from what its parts told.
use mathlib.Core.Path.{◌≡◌, ◌∙◌}
use mathlib.Core.List.{List, [], ◌∷◌}
use Prim.Native.Nat.{ℕ}
use lib.ListN.{get_or, replicate}
use Rattle.refusals.specs.Left.{left}
use Rattle.refusals.proofs.Left.{left_refused, left_accepted}
use Rattle.aes.specs.State.{State, state_from}
use Rattle.aes.specs.Steps.{add_round_key}
use Rattle.frame_lookups.specs.Scratch.{cleared}
use Rattle.frame_lookups.specs.Shares.{Shares, share, with_each_share}
use Rattle.frame_rounds.specs.Rounds.{split_plaintext, ten_rounds, frame_shares}
use Rattle.frame.specs.Frame.{frame_refusal, flat, encrypted, frame_reply, frame_scratch}

module _ (p k1 k2 k3 : State) (random scratch : List ℕ) (j : ℕ) (told : j ≡ frame_refusal random scratch) where
  pub frame_refused : (j ≡ 0 → ⊥)
      → record { refusal = j; share1 = replicate 16 0; share2 = replicate 16 0; share3 = replicate 16 0 } ≡ frame_reply p k1 k2 k3 random scratch
  unfolding frame_reply encrypted
  frame_refused h =
      let zeros : List ℕ = replicate 16 0 in
      let kept : (number : ℕ) → zeros ≡ left (frame_refusal random scratch) (flat (share (frame_shares random p (k1 ∷ k2 ∷ k3 ∷ [])) number)) zeros
      = λ number. left_refused j _ _ zeros told h in
      rw (← kept 0, ← kept 1, ← kept 2, ← told)

  pub frame_answered : (a b c : List ℕ) (s : Shares) → j ≡ 0 → s ≡ frame_shares random p (k1 ∷ k2 ∷ k3 ∷ [])
      → a ≡ flat (get_or s 0 []) → b ≡ flat (get_or s 1 []) → c ≡ flat (get_or s 2 [])
      → record { refusal = j; share1 = a; share2 = b; share3 = c } ≡ frame_reply p k1 k2 k3 random scratch
  unfolding frame_reply encrypted share left
  frame_answered a b c s z e ea eb ec = rw (← told, ← e, z, ea, eb, ec)

pub scratch_kept : (random scratch : List ℕ) (j : ℕ) → j ≡ frame_refusal random scratch → (j ≡ 0 → ⊥) → scratch ≡ frame_scratch random scratch
unfolding frame_scratch
scratch_kept random scratch j told h = left_refused j _ _ _ told h

pub scratch_cleared : (random scratch after : List ℕ) (j : ℕ) → j ≡ frame_refusal random scratch → j ≡ 0 → after ≡ cleared scratch
    → after ≡ frame_scratch random scratch
unfolding frame_scratch
scratch_cleared random scratch after j told z e = e ∙ left_accepted j _ _ _ told z

-- from the first key addition to the last share
pub frame_made : (random : List ℕ) (p : State) (key : Shares) (r1 r2 once masked : State) (s done : Shares)
    → r1 ≡ state_from random 0 → r2 ≡ state_from random 16 → once ≡ add_round_key p r1 → masked ≡ add_round_key once r2
    → s ≡ with_each_share add_round_key (masked ∷ r1 ∷ r2 ∷ []) key → done ≡ ten_rounds random s key
    → done ≡ frame_shares random p key
unfolding frame_shares split_plaintext
frame_made random p key r1 r2 once masked s done e1 e2 eo em es ed = rw (ed, es, em, eo, e1, e2)
