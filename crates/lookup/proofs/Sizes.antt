-- How long a log and its scratch can be, under any known method and for any input width.
use mathlib.Core.Path.{◌≡◌}
use mathlib.Core.Bool.{true}
use Prim.Native.Nat.{ℕ, ◌^◌, ◌≤◌}
use native.Mathlib.Omega.{arith}
use lib.Pow.{pow_mono}
use Rattle.lookup.specs.Methods.{known, method_of}
use Rattle.lookup.specs.Call.{log_length, scratch_length}
use Rattle.lookup.proofs.Methods.{of_each}
use Rattle.lookup.proofs.Right.{Right, right}

module _ (method n : ℕ) (is_Known : known method ≡ true) (width : n ≤ 8) where
  inputs : 2 ^ n ≤ 256
  inputs = pow_mono width

  proved : Right (method_of method)
  proved = of_each method right is_Known

  pub log_most : log_length method n ≤ 2314
  unfolding log_length
  log_most = omega (arith, proved.short (2 ^ n), inputs)

  pub scratch_most : scratch_length method n ≤ 512
  unfolding scratch_length
  scratch_most = omega (arith, proved.lean (2 ^ n), inputs)
