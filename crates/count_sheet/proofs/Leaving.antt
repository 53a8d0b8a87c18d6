-- What a count leaves in the lent buffers.
use mathlib.Core.Path.{◌≡◌, sym, ◌∙◌}
use mathlib.Core.List.{List, ◌++◌}
use Prim.Native.Nat.{ℕ, max, ◌*◌, ◌^◌, ◌≤◌}
use native.Mathlib.Nat.{max-le}
use native.Mathlib.Omega.{arith}
use lib.ListN.{length, take, drop, replicate, length-replicate}
use lib.Seq.{length-take-le}
use Rattle.refusals.proofs.Numbers.{not_zero}
use Rattle.refusals.proofs.Left.{left_refused, left_accepted}
use Rattle.buffers.specs.Written.{in_front}
use Rattle.table.proofs.Tabulate.{tabulate_long}
use Rattle.lookup.specs.Call.{log_length, scratch_length}
use Rattle.count_sheet.specs.declared.ProbePair.{ProbePair}
use Rattle.count_sheet.specs.Refusals.{value_width, count_refusal}
use Rattle.count_sheet.specs.Sheet.{counts, sheet_left, scratch_left, log_left}
use Rattle.count_sheet.specs.Runs.{Countable}
use Rattle.count_sheet.proofs.Checking.{Accepted, accepted}

-- a part that is lent, where there is room for it
pub part_is : (size : ℕ) (list : List ℕ) → size ≤ length list → size ≡ length (take size list)
part_is size list h = sym (length-take-le size list h)

pub part_long : (size n : ℕ) (list : List ℕ) → size ≤ length list → size ≡ n → length (take size list) ≡ n
part_long size n list h e = length-take-le size list h ∙ e

-- a front that came back as zeros
zeros_in_front : (size : ℕ) (list now : List ℕ) → size ≤ length list → now ≡ replicate (length (take size list)) 0
    → now ++ drop size list ≡ in_front (replicate size 0) list
unfolding in_front
zeros_in_front size list now h e =
    let zeros : List ℕ = replicate size 0 in
    let long : length zeros ≡ size = length-replicate size 0 in
    rw (e, length-take-le size list h, long)

module _ (p : ProbePair) (table scratch log sheet : List ℕ) (j : ℕ) (told : j ≡ count_refusal p table scratch log sheet) where
  -- refused
  module _ (h : j ≡ 0 → ⊥) where
    pub sheet_kept : sheet ≡ sheet_left p table scratch log sheet
    unfolding sheet_left
    sheet_kept = left_refused j _ _ _ told h

    pub scratch_kept : scratch ≡ scratch_left p table scratch log sheet
    unfolding scratch_left
    scratch_kept = left_refused j _ _ _ told h

    pub log_kept : log ≡ log_left p table scratch log sheet
    unfolding log_left
    log_kept = left_refused j _ _ _ told h

  -- accepted
  module _ (z : j ≡ 0) where
    taken : Accepted p table scratch log sheet
    taken = accepted p table scratch log sheet (sym told ∙ z)

    pub taken_countable : Countable p table
    taken_countable = taken.countable

    pub input_told : p.n ≤ 8
    input_told = omega (arith, taken.countable.input)

    pub larger_told : max p.n p.m ≤ 8
    larger_told = max-le input_told (omega (arith, taken.countable.output))

    module _ (bytes : ℕ) (b : bytes ≡ scratch_length p.method p.n) where
      pub bytes_room : bytes ≤ length scratch
      bytes_room = rw b taken.bytes

      pub scratch_zeroed : (now : List ℕ) → now ≡ replicate (length (take bytes scratch)) 0
          → now ++ drop bytes scratch ≡ scratch_left p table scratch log sheet
      unfolding scratch_left
      scratch_zeroed now e =
          zeros_in_front bytes scratch now bytes_room e ∙ rw b (left_accepted j _ _ _ told z)

    module _ (entries : ℕ) (b : entries ≡ log_length p.method p.n) where
      pub entries_room : entries ≤ length log
      entries_room = rw b taken.entries

      pub log_zeroed : (now : List ℕ) → now ≡ replicate (length (take entries log)) 0
          → now ++ drop entries log ≡ log_left p table scratch log sheet
      unfolding log_left
      log_zeroed now e = zeros_in_front entries log now entries_room e ∙ rw b (left_accepted j _ _ _ told z)

    module _ (size : ℕ) (b : size ≡ 2 ^ (2 * max p.n p.m)) where
      pub size_room : size ≤ length sheet
      unfolding value_width
      size_room = rw b taken.counts

      pub size_long : length (take size sheet) ≡ 2 ^ (2 * value_width p)
      unfolding value_width
      size_long = part_long size _ sheet size_room b

      pub sheet_filled : (now : List ℕ) → now ≡ counts table p → now ++ drop size sheet ≡ sheet_left p table scratch log sheet
      unfolding sheet_left in_front counts value_width
      sheet_filled now e =
          let long : length (counts table p) ≡ size = tabulate_long _ _ ∙ sym b in
          rw (e, ← long) (left_accepted j _ _ _ told z)

-- the lemmas that are found at the call's goals by what they conclude
pub ruleset buffers_left = (
  not_zero,
  part_is,
  part_long,
  sheet_kept,
  scratch_kept,
  log_kept,
  taken_countable,
  input_told,
  larger_told,
  bytes_room,
  entries_room,
  size_room,
  size_long,
  scratch_zeroed,
  log_zeroed,
  sheet_filled,
)
