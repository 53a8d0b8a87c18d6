-- A frame's number and shares, from what the frame told.
use mathlib.Core.Path.{◌≡◌, refl, ap, ◌∙◌}
use mathlib.Core.List.{List, [], ◌∷◌}
use Prim.Native.Nat.{ℕ}
use Rattle.std.specs.Prelude.{Ok, Err}
use Rattle.refusals.specs.declared.Refusal.{Refusal}
use Rattle.refusals.specs.Numbers.{number_of}
use Rattle.refusals.specs.Left.{left}
use Rattle.refusals.proofs.Left.{left_refused}
use Rattle.refusals.proofs.Numbers.{not_zero}
use Rattle.aes.specs.State.{State}
use Rattle.frame.specs.declared.Ciphertext.{Ciphertext}
use Rattle.frame.specs.Encrypted.{Encrypted, handed_frame}
use Rattle.frame_lookups.specs.Shares.{share}
use Rattle.frame_rounds.specs.Rounds.{frame_shares}
use Rattle.frame.specs.Frame.{frame_refusal, flat, encrypted, frame_reply}
use Rattle.cippazhey.specs.Export.{exported_share}

module _ (p k1 k2 k3 : State) (random scratch : List ℕ) where
  -- nothing was refused
  module _ (c : Ciphertext) (e : handed_frame (Ok c) ≡ frame_reply p k1 k2 k3 random scratch) where
    pub zero_is : 0 ≡ frame_refusal random scratch
    unfolding frame_reply encrypted
    zero_is = ap (λ (s : Encrypted). s.refusal) e

    -- what stands where nothing is refused does not depend on what stood there
    given : (number : ℕ) (old other : List ℕ)
        → left (frame_refusal random scratch) (flat (share (frame_shares random p (k1 ∷ k2 ∷ k3 ∷ [])) number)) other
        ≡ exported_share number p k1 k2 k3 random scratch old
    unfolding exported_share left
    given number old other = rw (← zero_is)

    pub share1_given : (old : List ℕ) → c.share1 ≡ exported_share 0 p k1 k2 k3 random scratch old
    unfolding frame_reply encrypted
    share1_given old = ap (λ (s : Encrypted). s.share1) e ∙ given 0 old _

    pub share2_given : (old : List ℕ) → c.share2 ≡ exported_share 1 p k1 k2 k3 random scratch old
    unfolding frame_reply encrypted
    share2_given old = ap (λ (s : Encrypted). s.share2) e ∙ given 1 old _

    pub share3_given : (old : List ℕ) → c.share3 ≡ exported_share 2 p k1 k2 k3 random scratch old
    unfolding frame_reply encrypted
    share3_given old = ap (λ (s : Encrypted). s.share3) e ∙ given 2 old _

  module _ (refusal : Refusal) (e : handed_frame (Err refusal) ≡ frame_reply p k1 k2 k3 random scratch) where
    pub number_is : (number : ℕ) → number ≡ number_of refusal → number ≡ frame_refusal random scratch
    unfolding frame_reply encrypted
    number_is number f = f ∙ ap (λ (s : Encrypted). s.refusal) e

    pub share_kept : (number : ℕ) (old : List ℕ) → old ≡ exported_share number p k1 k2 k3 random scratch old
    unfolding exported_share
    share_kept number old = left_refused (number_of refusal) _ _ old (number_is _ refl) (not_zero refusal)
