-- What one pass over a table finds: the counts of its values, and its entries joined by bitwise or; the counts joined likewise; and which
-- differences are periods of the counts.
use Rattle.std.specs.Prelude.{◌≡◌, Bool, false, ◌||◌, List, ℕ, suc, ◌^◌, ◌≤◌, ◌<◌, eqb, leb, length}
use Rattle.bits.specs.Xor.{◌⊕◌}
use Rattle.refusals.specs.Tests.{any_from}
use Rattle.table.specs.Balanced.{at, count_of, all_below}

-- the count of each byte value, and a number that is 2^m or more just when some entry is
pub record Tally (table counts : List ℕ) (joined : ℕ) : Type 0 where
  pub long : length counts ≡ 256
  pub counted : (v : ℕ) → v < 256 → at counts v ≡ count_of v table
  pub large : (m : ℕ) → any_from (2 ^ m) table ≡ leb (2 ^ m) joined

-- a table that has passed 3 to 6, and the counts of its values
pub record Counted (n m : ℕ) (table counts : List ℕ) : Type 0 where
  pub input_most : n ≤ 8
  pub output_most : m ≤ 8
  pub long : length table ≡ 2 ^ n
  pub small : any_from (2 ^ m) table ≡ false
  pub counted : (v : ℕ) → v < 256 → at counts v ≡ count_of v table

-- the counts joined by bitwise or: no less than any of them
pub record JoinedCounts (counts : List ℕ) (joined : ℕ) : Type 0 where
  pub above : (v : ℕ) → v < 256 → at counts v ≤ joined

-- shifting the values below the limit by a difference changes no count
unfoldable pub period : (limit : ℕ) → (counts : List ℕ) → (difference : ℕ) → Bool
period limit counts d = all_below limit (λ v. eqb (at counts (v ⊕ d)) (at counts v))

-- every difference of the first entry and a value that occurs is a period
unfoldable pub all_periods : (limit : ℕ) → (counts : List ℕ) → (first : ℕ) → Bool
all_periods limit counts first = all_below limit (λ d. eqb (at counts (first ⊕ d)) 0 || period limit counts d)

-- such a difference with this highest bit; or 0, and then there is none
pub record DifferenceFound (counts : List ℕ) (first bit difference : ℕ) : Type 0 where
  pub least : (difference ≡ 0 → ⊥) → 2 ^ bit ≤ difference
  pub most : difference < 2 ^ suc bit
  pub occurs : (difference ≡ 0 → ⊥) → at counts (first ⊕ difference) ≡ 0 → ⊥
  pub none : difference ≡ 0 → (d : ℕ) → 2 ^ bit ≤ d → d < 2 ^ suc bit → at counts (first ⊕ d) ≡ 0
