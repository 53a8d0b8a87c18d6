-- What a bounded case gives the methods' runs: sums of its numbers stay within the table, the scratch and a byte.
use mathlib.Core.Path.{◌≡◌}
use mathlib.Core.List.{List}
use Prim.Native.Nat.{ℕ, ◌^◌, ◌<◌}
use native.Mathlib.Nat.{lt_of_lt_of_le}
use native.Mathlib.Omega.{arith}
use mir.Syntax.{w8}
use mir.Val.{Fits}
use lib.Bits.{bit_xor}
use lib.ListN.{length}
use Rattle.bits.specs.Xor.{◌⊕◌}
use Rattle.bits.proofs.Xor.{below}
use Rattle.lookup.specs.declared.Case.{Case}
use Rattle.lookup.specs.Bounded.{Bounded}

pub add : (c : Case) {v u : ℕ} → v < 2 ^ c.n → u < 2 ^ c.n → bit_xor v u < 2 ^ c.n
unfolding ◌⊕◌
add c = below c.n

-- the table's index of a turn
pub in_table : (c : Case) (table : List ℕ) (a : ℕ) → Bounded c → length table ≡ 2 ^ c.n → a < 2 ^ c.n → bit_xor c.x0 a < length table
in_table c table a r t h = omega (arith, add c r.x0 h)

-- a number of the input's width fits a byte
pub one_byte : (c : Case) {v : ℕ} → Bounded c → v < 2 ^ c.n → Fits w8 v
one_byte c k h = record { fits = lt_of_lt_of_le h k.size }
