-- What both calls hand back and leave, from what the checks and the runs told.
use mathlib.Core.Path.{◌≡◌, refl, ◌∙◌}
use mathlib.Core.List.{List}
use Prim.Native.Nat.{ℕ, zero, suc}
use Rattle.refusals.proofs.Left.{left_refused, left_accepted}
use Rattle.buffers.specs.Written.{in_front}
use Rattle.halves.specs.declared.Selection.{Selection}
use Rattle.selection.specs.Selected.{Selected}
use Rattle.halves.specs.Halves.{share}
use Rattle.selection.specs.Log.{log_of}
use Rattle.selection.specs.Select.{plain_select_refusal, select_refusal, selected, select_reply, select_log, plain_select_share}

pub refused_zeros : (k first second third : ℕ) → (k ≡ 0 → ⊥)
    → record { refusal = k; first = 0; second = 0; third = 0; count = 0 } ≡ selected k first second third
unfolding selected
refused_zeros zero first second third h = absurd (h refl)
refused_zeros (suc k) first second third h = refl

module _ (s : Selection) (lent : List ℕ) (k : ℕ) (told : k ≡ select_refusal s lent) where
  pub reply_refused : (k ≡ 0 → ⊥) → record { refusal = k; first = 0; second = 0; third = 0; count = 0 } ≡ select_reply s lent
  unfolding select_reply
  reply_refused h = rw (← told) (refused_zeros k (share 0 s) (share 1 s) (share 2 s) h)

  pub log_refused : (k ≡ 0 → ⊥) → lent ≡ select_log s lent
  unfolding select_log
  log_refused h = left_refused k _ _ lent told h

  pub reply_accepted : (r : Selected) → k ≡ 0 → r ≡ selected 0 (share 0 s) (share 1 s) (share 2 s) → r ≡ select_reply s lent
  unfolding select_reply
  reply_accepted r z e = rw (← told, z) e

  pub log_accepted : (after : List ℕ) → k ≡ 0 → after ≡ in_front (log_of s) lent → after ≡ select_log s lent
  unfolding select_log
  log_accepted after z e = e ∙ left_accepted k _ _ lent told z

module _ (s : Selection) (k : ℕ) (told : k ≡ plain_select_refusal s) where
  pub share_refused : (register old : ℕ) → (k ≡ 0 → ⊥) → old ≡ plain_select_share register s old
  unfolding plain_select_share
  share_refused register old h = left_refused k _ _ old told h

  pub share_accepted : (register old new : ℕ) → k ≡ 0 → new ≡ share register s → new ≡ plain_select_share register s old
  unfolding plain_select_share
  share_accepted register old new z e = e ∙ left_accepted k _ _ old told z
