-- From the log that the call of a sheet left to its page.
use mathlib.Core.Path.{◌≡◌, refl}
use mathlib.Core.Bool.{true, false, not}
use mathlib.Core.List.{List, map}
use Prim.Native.Nat.{ℕ, ◌+◌, ◌*◌, ◌≤◌}
use native.Mathlib.Omega.{arith}
use borrow.Author.Tests.{ne_eqb, not-true}
use lib.ListN.{length, take}
use Rattle.refusals.specs.Tests.{outside, any_from}
use Rattle.refusals.proofs.Tests.{inside, one_below, none_below}
use Rattle.table.specs.Balanced.{count_of}
use Rattle.lookup.specs.Entry.{kind_of, kind_limit}
use Rattle.lookup.specs.Promises.{KindsKnown}
use Rattle.lookup.proofs.Each.{Each, none as no_element, more}
use Rattle.lookup.proofs.Numbered.{each_passes, kinds_known}
use Rattle.case_sheet.specs.Edition.{six_columns}
use Rattle.case_sheet.specs.Sheet.{table_of}
use Rattle.log_page.specs.Page.{often, page_of}
use Rattle.sheet_call.specs.Call.{sheet_case, sheet_refusal, sheet_log, reply, log_left}
use Rattle.sheet_call.proofs.Replies.{none, few, entries, entries_lent, taken}

-- the kinds of an accepted sheet's log are below any limit above 18, and none is 0
below_limit : (limit : ℕ) → 19 ≤ limit → {kinds : List ℕ} → Each (λ k. not (outside 1 18 k) ≡ true) kinds → any_from limit kinds ≡ false
below_limit limit h no_element = none_below limit
below_limit limit h (more {x = k} {xs = ks} p d) =
    one_below limit k ks (omega (arith, (inside 1 18 k (not-true _ p)).1)) (below_limit limit h d)

above_0 : {kinds : List ℕ} → Each (λ k. not (outside 1 18 k) ≡ true) kinds → count_of 0 kinds ≡ 0
unfolding count_of
above_0 no_element = refl
above_0 (more {x = k} p d) = rw (ne_eqb k 0 (λ e. omega (arith, (inside 1 18 k (not-true _ p)).0)), above_0 d)

module _ (input : List ℕ) (e : sheet_refusal six_columns input ≡ 0) where
  known : Each (λ k. not (outside 1 18 k) ≡ true) (map kind_of (sheet_log six_columns input))
  unfolding KindsKnown sheet_log
  known =
      each_passes (λ k. not (outside 1 18 k)) _
      (kinds_known (table_of six_columns 10 input) (sheet_case six_columns input) (taken six_columns input e).1)

  pub kinds_below : (limit : ℕ) → 19 ≤ limit → any_from limit (map kind_of (sheet_log six_columns input)) ≡ false
  kinds_below limit h = below_limit limit h known

  pub kinds_above : often 0 (sheet_log six_columns input) ≡ 0
  unfolding often
  kinds_above = above_0 known

module _ (input : List ℕ) (s n : ℕ) (told : record { refusal = 0; share = s; count = n } ≡ reply input) (lent now : List ℕ)
    (left_is : now ≡ log_left input lent) where
  pub page_room : (output : List ℕ) → length output ≡ 40960 → 17 * length (take n now) + 600 ≤ length output
  page_room output h = omega (arith, entries_lent input s n told lent now left_is, few input s n told)

  pub kinds_lent : any_from kind_limit (map kind_of (take n now)) ≡ false
  kinds_lent = rw (entries input s n told lent now left_is) (kinds_below input (none input s n told) kind_limit (omega arith))

  pub paged : page_of (take n now) ≡ page_of (sheet_log six_columns input)
  paged = rw (entries input s n told lent now left_is)
