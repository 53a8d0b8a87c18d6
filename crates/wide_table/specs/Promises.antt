-- What is promised of tables with an entry above 255. Each is a type; its proof stands in proofs/Promises.antt.
use Rattle.std.specs.Prelude.{◌≡◌, true, false, List, ℕ, ◌^◌, ◌≤◌, length}
use Rattle.refusals.specs.Tests.{outside}
use Rattle.lookup.specs.Methods.{known}
use Rattle.wide_table.specs.Wide.{wide, wide_refusal}

-- such a table is refused, with one of 2 to 6; no other is refused here
unfoldable pub WideTwoToSix : Type 0
WideTwoToSix =
    (method n m : ℕ) (table : List ℕ)
    → (wide table ≡ true → (2 ≤ wide_refusal method n m table) × (wide_refusal method n m table ≤ 6))
    × (wide table ≡ false → wide_refusal method n m table ≡ 0)

-- with 6 where 2 to 5 do not apply, whatever m is
unfoldable pub WideSix : Type 0
WideSix =
    (method n m : ℕ) (table : List ℕ) → wide table ≡ true → known method ≡ true → outside 1 8 n ≡ false → outside 1 8 m ≡ false
    → length table ≡ 2 ^ n → wide_refusal method n m table ≡ 6
