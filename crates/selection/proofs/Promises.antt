-- What is promised of both calls that choose a half holds.
use mathlib.Core.Path.{◌≡◌, refl, sym, ap, ◌∙◌}
use mathlib.Core.Bool.{true}
use mathlib.Core.List.{List}
use Prim.Native.Nat.{ℕ}
use Rattle.bits.specs.Xor.{◌⊕◌}
use Rattle.refusals.specs.Checks.{first_of}
use Rattle.table.specs.Balanced.{at}
use Rattle.refusals.specs.Tests.{outside, any_from}
use Rattle.refusals.proofs.Tests.{below_outside, above_outside}
use Rattle.refusals.specs.Left.{left}
use Rattle.refusals.proofs.Left.{left_refused, left_accepted}
use Rattle.buffers.specs.Written.{in_front}
use Rattle.buffers.proofs.Written.{in_front_take, in_front_drop}
use Rattle.halves.specs.declared.Selection.{Selection}
use Rattle.selection.specs.Selected.{Selected}
use Rattle.halves.specs.Halves.{half, c3, masked, registers, share}
use Rattle.selection.specs.Log.{half_values, log_of}
use Rattle.selection.specs.Select.{width_checks, word_checks, bit_checks, mask_checks, plain_select_refusal, select_refusal}
use Rattle.selection.specs.Select.{selected, select_reply, select_log, plain_select_share}
use Rattle.selection.specs.Order.{SelectionWorked, OrderWorked}
use Rattle.selection.specs.Promises.{bit_of, SharesJoin, PlacesJoin, SharesChosen, SharesSmall, LogOfRows}
use Rattle.selection.specs.Promises.{AcceptedLeft, RefusedKept, LoggedAsPlain, RefusalsRight, LoggedRefusalsRight}
use Rattle.selection.proofs.Checking.{at_20, at_plain, at_14, at_none}
use Rattle.selection.proofs.Accepted.{plain_bounded, plain_least, bounded_by, not_refused, large_number, logged_parts}
use Rattle.selection.proofs.Replies.{refused_zeros}
use Rattle.selection.proofs.Logging.{log_long}
use Rattle.halves.proofs.Shares.{masked_join, masked_below, bounded_share}
use Rattle.selection.proofs.Rows.{log_read, values_in_table}

pub selection_worked : SelectionWorked
unfolding SelectionWorked at share registers masked half c3 half_values ◌⊕◌
selection_worked = (refl, refl, refl, refl)

pub order_worked : OrderWorked
unfolding OrderWorked select_refusal plain_select_refusal width_checks word_checks bit_checks mask_checks first_of outside any_from
order_worked = refl

-- the three shares of a selection that is not refused
joined : (s : Selection) → plain_select_refusal s ≡ 0
    → share 0 s ⊕ share 1 s ⊕ share 2 s ≡ half s.width (bit_of s) (s.z0 ⊕ s.z1 ⊕ s.z2)
joined s e =
    let k = plain_bounded s e in
    rw (bounded_share s 0 k, bounded_share s 1 k, bounded_share s 2 k) (masked_join s (bit_of s))

-- what an accepted call hands back
reply_is : (s : Selection) (lent : List ℕ) → select_refusal s lent ≡ 0
    → select_reply s lent ≡ record { refusal = 0; first = share 0 s; second = share 1 s; third = share 2 s; count = 28 }
unfolding select_reply selected
reply_is s lent e = rw e

share_is : (s : Selection) (register old : ℕ) → plain_select_refusal s ≡ 0 → plain_select_share register s old ≡ share register s
unfolding plain_select_share
share_is s register old e = sym (left_accepted 0 _ _ old (sym e) refl)

pub shares_join : SharesJoin
unfolding SharesJoin
shares_join s lent e = rw (reply_is s lent e) (joined s (logged_parts s lent e).0)

pub places_join : PlacesJoin
unfolding PlacesJoin
places_join s old0 old1 old2 e = rw (share_is s 0 old0 e, share_is s 1 old1 e, share_is s 2 old2 e) (joined s e)

pub shares_chosen : SharesChosen
unfolding SharesChosen masked
shares_chosen s e =
    let k = plain_bounded s e in
    (bounded_share s 0 k, bounded_share s 1 k, bounded_share s 2 k)

pub shares_small : SharesSmall
unfolding SharesSmall
shares_small s register e =
    let k = plain_bounded s e in
    rw (bounded_share s register k) (masked_below s register _ k)

pub log_of_rows : LogOfRows
unfolding LogOfRows
log_of_rows s e =
    let k = plain_bounded s e in
    ((log_read s k).kinds_are, (log_read s k).values_are ∙ values_in_table s k.c0 k.c1 k.c2 k.b)

pub accepted_left : AcceptedLeft
unfolding AcceptedLeft select_log
accepted_left s lent e =
    let new : left (select_refusal s lent) (in_front (log_of s) lent) lent ≡ in_front (log_of s) lent
    = sym (left_accepted 0 _ _ lent (sym e) refl) in (
      ap (λ (r : Selected). r.count) (reply_is s lent e),
      log_long s,
      rw new (in_front_take (log_of s) lent 28 (log_long s)),
      rw new (in_front_drop (log_of s) lent 28 (log_long s)),
    )

pub refused_kept : RefusedKept
unfolding RefusedKept select_reply select_log plain_select_share
refused_kept s lent register old = (
  λ h. (sym (refused_zeros (select_refusal s lent) _ _ _ h), sym (left_refused _ _ _ lent refl h)),
  λ h. sym (left_refused _ _ _ old refl h),
)

pub logged_as_plain : LoggedAsPlain
unfolding LoggedAsPlain
logged_as_plain s lent old0 old1 old2 e =
    let both = logged_parts s lent e in
    let reply = reply_is s lent e in (
      both.0,
      both.1,
      ap (λ (r : Selected). r.first) reply ∙ sym (share_is s 0 old0 both.0),
      ap (λ (r : Selected). r.second) reply ∙ sym (share_is s 1 old1 both.0),
      ap (λ (r : Selected). r.third) reply ∙ sym (share_is s 2 old2 both.0),
    )

pub refusals_right : RefusalsRight
unfolding RefusalsRight
refusals_right s = (
  λ h. sym (at_20 s true (sym (below_outside 1 8 s.width h)) refl),
  λ h. sym (at_20 s true (sym (above_outside 1 8 s.width h)) refl),
  λ least most some. large_number s least most some,
  λ e.
      let k = plain_bounded s e in
      (plain_least s e, k.width_most, k.z0, k.z1, k.z2, k.c0, k.c1, k.c2, k.b, k.t1, k.t2),
  λ w.
      not_refused s w.0
      (bounded_by s w.1 w.2 w.3 w.4 w.5 w.6 w.7 w.8 w.9 w.10),
)

pub logged_refusals_right : LoggedRefusalsRight
unfolding LoggedRefusalsRight
logged_refusals_right s lent = (
  λ some. sym (at_plain s lent _ refl some),
  λ e short. sym (at_14 s lent (sym e) short),
  λ e room. sym (at_none s lent (sym e) room),
)
