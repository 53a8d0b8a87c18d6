-- What is promised of numbers in columns. Each is a type; its proof stands in proofs/.
use Rattle.std.specs.Prelude.{◌≡◌, List, ℕ, ◌^◌, ◌≤◌, ◌<◌, Some}
use Rattle.field.specs.Field.{field_of}
use Rattle.field.specs.Printed.{printed}

-- what is printed of a number that has room in its columns is read back
unfoldable pub ReadBack : Type 0
ReadBack =
    (columns most value : ℕ) → 0 < columns → value < 10 ^ columns → value ≤ most
    → field_of columns most (printed columns value) ≡ Some value

-- a field that has a number is what is printed of it: there is one way to write a number
unfoldable pub WrittenOnce : Type 0
WrittenOnce =
    (columns most value : ℕ) (bytes : List ℕ) → field_of columns most bytes ≡ Some value → printed columns value ≡ bytes
