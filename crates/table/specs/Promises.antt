-- What is promised of fit tables. Each is a type; its proof stands in proofs/Promises.antt.
use Rattle.std.specs.Prelude.{◌≡◌, true, false, List, ℕ, ◌^◌, ◌≤◌, ◌<◌, length}
use Rattle.bits.specs.Xor.{◌⊕◌}
use Rattle.refusals.specs.Tests.{any_from}
use Rattle.table.specs.Balanced.{at, count_of, balanced}
use Rattle.table.specs.Fit.{occurs, fit}
use Rattle.table.specs.Even.{Even}
use Rattle.table.specs.Refusals.{table_refusal}

-- what fit means, without a test that computes: 2^n entries, all below 2^m; any two values that occur do so equally often; the ⊕ of any
-- three that occur, repeats allowed, occurs
pub record IsFit (n m : ℕ) (table : List ℕ) : Type 0 where
  pub long : length table ≡ 2 ^ n
  pub small : (i : ℕ) → at table i < 2 ^ m
  pub equal : (u v : ℕ) → occurs u table ≡ true → occurs v table ≡ true → count_of u table ≡ count_of v table
  pub closed : (u v w : ℕ) → occurs u table ≡ true → occurs v table ≡ true → occurs w table ≡ true → occurs (u ⊕ v ⊕ w) table ≡ true

unfoldable pub FitRight : Type 0
FitRight = (n m : ℕ) (table : List ℕ) → (fit n m table ≡ true → IsFit n m table) × (IsFit n m table → fit n m table ≡ true)

-- every balanced table is fit
unfoldable pub BalancedFit : Type 0
BalancedFit = (n m : ℕ) (table : List ℕ) → balanced n m table ≡ true → fit n m table ≡ true

-- so what was accepted when 7 was asked of balance still is; a balanced table's m is at most its n
unfoldable pub BalancedAccepted : Type 0
BalancedAccepted = (n m : ℕ) (table : List ℕ) → 1 ≤ n → n ≤ 8 → 1 ≤ m → balanced n m table ≡ true → (m ≤ n) × (table_refusal n m table ≡ 0)

-- and a fit table in which every value below 2^m occurs is balanced
unfoldable pub FullBalanced : Type 0
FullBalanced =
    (n m : ℕ) (table : List ℕ) → fit n m table ≡ true → ((v : ℕ) → v < 2 ^ m → occurs v table ≡ true) → balanced n m table ≡ true

-- every fit table is even, which is all that the third demand needs of it
unfoldable pub FitEven : Type 0
FitEven = (n m : ℕ) (table : List ℕ) → fit n m table ≡ true → Even n (at table)

-- and every even table of that size is fit, so that none of them is refused
unfoldable pub EvenFit : Type 0
EvenFit =
    (n m : ℕ) (table : List ℕ) → length table ≡ 2 ^ n → any_from (2 ^ m) table ≡ false → Even n (at table) → fit n m table ≡ true

-- a table is accepted just if both widths are 1 to 8 and it is fit
unfoldable pub AcceptedFit : Type 0
AcceptedFit =
    (n m : ℕ) (table : List ℕ) →
    (table_refusal n m table ≡ 0 → (1 ≤ n) × (n ≤ 8) × (1 ≤ m) × (m ≤ 8) × (fit n m table ≡ true))
    × ((1 ≤ n) × (n ≤ 8) × (1 ≤ m) × (m ≤ 8) × (fit n m table ≡ true) → table_refusal n m table ≡ 0)
