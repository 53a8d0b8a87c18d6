-- What the calls hand back and leave behind, refused and accepted, from what their parts told.
use mathlib.Core.Path.{◌≡◌, refl, sym, ◌∙◌}
use mathlib.Core.Bool.{true}
use mathlib.Core.List.{List}
use Prim.Native.Nat.{ℕ, zero, suc, ◌^◌, ◌≤◌}
use native.Mathlib.Omega.{arith}
use borrow.Author.Tests.{ltb-false}
use mir.Syntax.{w32}
use mir.Val.{Fits}
use lib.ListN.{length}
use Rattle.std.specs.Prelude.{Err}
use Rattle.refusals.specs.declared.Refusal.{Refusal}
use Rattle.refusals.specs.Numbers.{number_of}
use Rattle.refusals.specs.Checks.{first_of}
use Rattle.refusals.proofs.Numbers.{not_zero}
use Rattle.refusals.proofs.Checks.{passed}
use Rattle.refusals.proofs.Left.{left_refused, left_accepted}
use Rattle.buffers.specs.Written.{in_front}
use Rattle.lookup.specs.declared.Case.{Case}
use Rattle.lookup.specs.Called.{handed_call}
use Rattle.lookup.specs.Bounded.{Bounded}
use Rattle.lookup.specs.Methods.{known}
use Rattle.lookup.specs.Call.{answer, scratch_after, log_of, log_length, scratch_length}
use Rattle.lookup.specs.Refusals.{log_checks, plain_refusal, logged_refusal}
use Rattle.lookup.proofs.Accepted.{Taken, accepted, accepted_bounded}
use Rattle.lookup.proofs.Refused.{scratch_accepted, plain_case, logged_plain}
use Rattle.lookup.proofs.Promises.{taken_right}
use Rattle.calls.specs.Reply.{called, plain_reply, plain_scratch, logged_reply, logged_scratch, logged_log}

called_refused : (refusal : Refusal) (k share count : ℕ) → number_of refusal ≡ k → handed_call (Err refusal) ≡ called k share count
unfolding called
called_refused refusal zero share count e = absurd (not_zero refusal e)
called_refused refusal (suc k) share count e = rw e

called_accepted : (k share count : ℕ) → 0 ≡ k → record { refusal = 0; share = share; count = count } ≡ called k share count
unfolding called
called_accepted k share count e = rw (← e)

module _ (c : Case) (table scratch : List ℕ) (refusal : Refusal) (told : number_of refusal ≡ plain_refusal c table scratch) where
  pub plain_refused : handed_call (Err refusal) ≡ plain_reply c table scratch
  unfolding plain_reply
  plain_refused = called_refused refusal _ _ _ told

  pub plain_kept : scratch ≡ plain_scratch c table scratch
  unfolding plain_scratch
  plain_kept = left_refused _ _ _ _ told (not_zero refusal)

module _ (c : Case) (table scratch : List ℕ) (told : 0 ≡ plain_refusal c table scratch) where
  pub plain_answered : (share : ℕ) → share ≡ answer c table → record { refusal = 0; share = share; count = 0 } ≡ plain_reply c table scratch
  unfolding plain_reply
  plain_answered share e = rw e (called_accepted _ _ _ told)

  pub plain_left : (now : List ℕ) → now ≡ scratch_after c table scratch → now ≡ plain_scratch c table scratch
  unfolding plain_scratch
  plain_left now e = e ∙ left_accepted 0 _ _ _ told refl

  -- what an accepted call knows
  taken : Taken c table
  taken = accepted c table (plain_case c table scratch (sym told)).0

  pub plain_method : known c.method ≡ true
  plain_method = taken.0

  pub plain_bounded : Bounded c
  plain_bounded = accepted_bounded _ c table (taken_right c table taken).bit taken.1

  pub plain_table : length table ≡ 2 ^ c.n
  plain_table = taken.1.table.long

  pub plain_room : scratch_length c.method c.n ≤ length scratch
  plain_room = (scratch_accepted c scratch (plain_case c table scratch (sym told)).1).room

module _ (c : Case) (table scratch lent : List ℕ) (refusal : Refusal) (told : number_of refusal ≡ logged_refusal c table scratch lent) where
  pub logged_refused : handed_call (Err refusal) ≡ logged_reply c table scratch lent
  unfolding logged_reply
  logged_refused = called_refused refusal _ _ _ told

  pub logged_kept : scratch ≡ logged_scratch c table scratch lent
  unfolding logged_scratch
  logged_kept = left_refused _ _ _ _ told (not_zero refusal)

  pub log_kept : lent ≡ logged_log c table scratch lent
  unfolding logged_log
  log_kept = left_refused _ _ _ _ told (not_zero refusal)

-- the run of an accepted logged call
module _ (c : Case) (table scratch lent : List ℕ) (taken_whole : logged_refusal c table scratch lent ≡ 0) where
  pub logged_answered : (share count : ℕ) → share ≡ answer c table → count ≡ log_length c.method c.n
      → record { refusal = 0; share = share; count = count } ≡ logged_reply c table scratch lent
  unfolding logged_reply
  logged_answered share count e f = rw (e, f) (called_accepted _ _ _ (sym taken_whole))

  pub logged_left : (now : List ℕ) → now ≡ scratch_after c table scratch → now ≡ logged_scratch c table scratch lent
  unfolding logged_scratch
  logged_left now e = e ∙ left_accepted 0 _ _ _ (sym taken_whole) refl

  pub log_left : (now : List ℕ) → now ≡ in_front (log_of c table) lent → now ≡ logged_log c table scratch lent
  unfolding logged_log
  log_left now e = e ∙ left_accepted 0 _ _ _ (sym taken_whole) refl

  -- an accepted logged call knows what an accepted plain call knows, and that the log is long enough
  both : (plain_refusal c table scratch ≡ 0) × (first_of (log_checks c lent) ≡ 0)
  both = logged_plain c table scratch lent taken_whole

  pub logged_method : known c.method ≡ true
  logged_method = plain_method c table scratch (sym both.0)

  pub logged_bounded : Bounded c
  logged_bounded = plain_bounded c table scratch (sym both.0)

  pub logged_width : c.n ≤ 8
  logged_width = logged_bounded.width

  pub logged_table : length table ≡ 2 ^ c.n
  logged_table = plain_table c table scratch (sym both.0)

  pub logged_room : scratch_length c.method c.n ≤ length scratch
  logged_room = plain_room c table scratch (sym both.0)

  pub log_room : log_length c.method c.n ≤ length lent
  unfolding log_checks
  log_room = ltb-false _ _ (passed _ 13 _ both.1).0

  -- the count fits a u32
  pub count_fits : (count : ℕ) → count ≡ log_length c.method c.n → Fits w32 count
  unfolding log_length
  count_fits count e =
      let accepted_case = taken c table scratch (sym both.0) in
      record { fits = omega (arith, e, (taken_right c table accepted_case).short (2 ^ c.n), logged_bounded.size) }
