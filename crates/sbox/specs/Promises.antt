-- What is promised of the S-box. Each is a type; its proof stands in proofs/Promises.antt.
use Rattle.std.specs.Prelude.{◌≡◌, true, ℕ, ◌<◌}
use Rattle.table.specs.Balanced.{at, balanced}
use Rattle.table.specs.Refusals.{table_refusal}
use Rattle.sbox.specs.Field.{times, inverse}
use Rattle.sbox.specs.Sbox.{affine, sbox}

-- the entry at each byte is the affine map of the byte's inverse
unfoldable pub EntryRight : Type 0
EntryRight = (b : ℕ) → b < 256 → at sbox b ≡ affine (inverse b)

-- a byte times its inverse is 1, and 0 is the inverse of 0
unfoldable pub InverseRight : Type 0
InverseRight = (inverse 0 ≡ 0) × ((b : ℕ) → 0 < b → b < 256 → times b (inverse b) ≡ 1)

-- the table is balanced at n = m = 8, and so the calls accept it
unfoldable pub SboxBalanced : Type 0
SboxBalanced = balanced 8 8 sbox ≡ true

unfoldable pub SboxAccepted : Type 0
SboxAccepted = table_refusal 8 8 sbox ≡ 0
