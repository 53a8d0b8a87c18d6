-- The laws of the S-box: each entry is as the rule says, and the table is balanced: 256 entries, each of them a byte, and each byte
-- exactly once.
use mathlib.Core.Path.{◌≡◌, refl}
use mathlib.Core.Bool.{true}
use Prim.Native.Nat.{ℕ, ◌<◌}
use lib.ListN.{length}
use Rattle.bits.specs.Xor.{◌⊕◌}
use Rattle.refusals.specs.Tests.{any_from}
use Rattle.table.specs.Balanced.{at, count_of, all_below, each_often, balanced}
use Rattle.table.proofs.Balanced.{balanced_long, balanced_below, balanced_count}
use Rattle.table.specs.Tabulate.{tabulate}
use Rattle.sbox.specs.Field.{xtime, times_bits, times, square, inverse}
use Rattle.sbox.specs.Sbox.{bit, constant, affine_bit, from_bits, affine, sbox}
use Rattle.table.proofs.Tabulate.{tabulate_at}

pub sbox_rule : (b : ℕ) → b < 256 → at sbox b ≡ affine (inverse b)
unfolding sbox
sbox_rule = tabulate_at 256 _

-- the whole table is computed, and each byte counted in it
pub sbox_balanced : balanced 8 8 sbox ≡ true
unfolding balanced any_from each_often all_below count_of sbox tabulate affine from_bits affine_bit bit constant inverse square times
    times_bits xtime ◌⊕◌
sbox_balanced = refl

pub length_sbox : length sbox ≡ 256
length_sbox = balanced_long 8 8 sbox sbox_balanced

pub sbox_below : (b : ℕ) → at sbox b < 256
sbox_below = balanced_below 8 8 sbox sbox_balanced

pub sbox_once : (v : ℕ) → v < 256 → count_of v sbox ≡ 1
sbox_once = balanced_count 8 8 sbox sbox_balanced
