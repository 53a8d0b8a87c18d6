-- What is known of a pair that the checks let through.
use mathlib.Core.Path.{◌≡◌}
use mathlib.Core.List.{List}
use Prim.Native.Nat.{ℕ, ◌^◌, ◌≤◌}
use native.Mathlib.Nat.{max-le}
use lib.Pow.{pow_mono}
use Rattle.refusals.specs.Checks.{first_of}
use Rattle.table.proofs.Refusals.{table_accepted}
use Rattle.lookup.specs.Call.{log_length, scratch_length}
use Rattle.lookup.proofs.Sizes.{log_most, scratch_most}
use Rattle.count_sheet.specs.declared.ProbePair.{ProbePair}
use Rattle.count_sheet.specs.Refusals.{value_width, pair_checks}
use Rattle.count_sheet.proofs.Checking.{pair_taken}

module _ (p : ProbePair) where
  -- n and m at most 3: the sheet's side is at most 8
  pub width_small : p.n ≤ 3 → p.m ≤ 3 → value_width p ≤ 3
  unfolding value_width
  width_small n m = max-le n m

  pub side_most : value_width p ≤ 3 → 2 ^ value_width p ≤ 8
  side_most h = pow_mono h

  -- the method and the table are let through: scratch and log have no more than 512 and 2314 elements
  module _ (table : List ℕ) (e : first_of (pair_checks p table) ≡ 0) where
    input_most : p.n ≤ 8
    input_most = (table_accepted p.n p.m table (pair_taken p table e).taken).input_most

    pub log_small : log_length p.method p.n ≤ 2314
    log_small = log_most p.method p.n (pair_taken p table e).method input_most

    pub scratch_small : scratch_length p.method p.n ≤ 512
    scratch_small = scratch_most p.method p.n (pair_taken p table e).method input_most
