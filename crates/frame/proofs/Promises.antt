-- What is promised of a frame holds.
use mathlib.Core.Path.{◌≡◌, refl, sym, ap, ◌∙◌}
use mathlib.Core.List.{List, [], ◌∷◌}
use Prim.Native.Nat.{ℕ}
use borrow.Author.Tests.{eq-eqb, ne_eqb, lt-ltb, le-ltb}
use lib.ListN.{length, drop, replicate, length-replicate}
use lib.Seq.{take_at, drop_at}
use Rattle.refusals.specs.Checks.{first_of}
use Rattle.refusals.specs.Left.{left}
use Rattle.table.specs.Balanced.{at}
use Rattle.table.specs.Tabulate.{tabulate}
use Rattle.aes.specs.State.{four, column, byte, state_of, word_from, state_from}
use Rattle.frame_lookups.specs.Shares.{Shares, share, joined}
use Rattle.frame_lookups.specs.Scratch.{cleared}
use Rattle.frame_lookups.specs.Lookups.{position}
use Rattle.screening.specs.Promises.{FewPasses, StuckNoticed}
use Rattle.screening.proofs.Promises.{told_clean, few_passes, stuck_noticed}
use Rattle.frame.specs.Frame.{frame_checks, frame_refusal, flat, encrypted, frame_reply, frame_scratch}
use Rattle.frame.specs.Promises.{ciphertext, FrameRight, RefusalsRight, StuckRefused, ScratchCleared}
use Rattle.frame.specs.Promises.{PositionsRight, OrderRight}
use Rattle.frame_rounds.proofs.Bytes.{shares_bytes}
use Rattle.frame_rounds.proofs.Right.{frame_joins}

-- the shares' bytes, joined, are the joined state's bytes
flat_joins : (s : Shares) → ciphertext (encrypted 0 s) ≡ flat (joined s)
unfolding ciphertext tabulate encrypted left flat joined state_of byte column four at share
flat_joins s = refl

pub frame_right : FrameRight
unfolding FrameRight frame_reply
frame_right p k1 k2 k3 random scratch hp h1 h2 h3 small e =
    rw e (flat_joins _ ∙ ap flat (frame_joins random small (k1 ∷ k2 ∷ k3 ∷ []) (shares_bytes k1 k2 k3 h1 h2 h3) p hp))

pub scratch_cleared : ScratchCleared
unfolding ScratchCleared frame_scratch left cleared
scratch_cleared random scratch e =
    let zeros : List ℕ = replicate 256 0 in
    let long = length-replicate {A = ℕ} 256 0 in
    rw e (take_at zeros (drop 256 scratch) 256 long, drop_at zeros (drop 256 scratch) 256 long)

pub positions_right : PositionsRight
unfolding PositionsRight tabulate position
positions_right = refl

pub order_right : OrderRight
unfolding OrderRight flat tabulate state_from word_from byte column four at
order_right bytes = refl

-- the checks one by one
pub refusals_right : RefusalsRight
unfolding RefusalsRight frame_refusal frame_checks first_of
refusals_right random scratch = (
  λ h. rw (ne_eqb (length random) 632 h),
  λ h e. rw (eq-eqb (length random) 632 h, e),
  λ h e l. rw (eq-eqb (length random) 632 h, e, lt-ltb _ 256 l),
  λ h e l. rw (eq-eqb (length random) 632 h, e, le-ltb _ 256 l),
)

pub stuck_refused : StuckRefused
unfolding StuckRefused RefusalsRight StuckNoticed FewPasses
stuck_refused = (
  λ before rest scratch value b h. (refusals_right _ scratch).1 h (stuck_noticed.0 before rest value b),
  λ random scratch h few l. (refusals_right random scratch).3 h (told_clean random (sym (few_passes random few))) l,
)
