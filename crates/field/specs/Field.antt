-- A field: a number right-justified by spaces in its columns, without leading zeros. Bytes are ASCII: 32 is a space, 48 to 57 are the digits.
use Rattle.std.specs.Prelude.{Bool, ◌&&◌, cond, List, [], ◌∷◌, ℕ, suc, ◌+◌, ◌*◌, ◌-◌, eqb, leb, ltb, length, drop, Option, Some, None}

unfoldable pub digit : ℕ → Bool
digit byte = leb 48 byte && leb byte 57

-- a value and the digits behind it, to the end
unfoldable pub decimal : (value : ℕ) → List ℕ → Option ℕ
decimal value [] = Some value
decimal value (byte ∷ bytes) = cond (digit byte) (decimal (value * 10 + (byte - 48)) bytes) None

-- at least one digit, and no leading zero: 0 is one digit
unfoldable pub number : List ℕ → Option ℕ
number [] = None
number (byte ∷ bytes) = cond (eqb byte 48 && ltb 0 (length bytes)) None (decimal 0 (byte ∷ bytes))

-- how many spaces stand in front
unfoldable pub spaces : List ℕ → ℕ
spaces [] = 0
spaces (byte ∷ bytes) = cond (eqb byte 32) (suc (spaces bytes)) 0

-- a number at most the largest
unfoldable pub up_to : (most : ℕ) → Option ℕ → Option ℕ
up_to most (Some value) = cond (leb value most) (Some value) None
up_to most None = None

-- spaces, then a number up to the end, in exactly so many columns
unfoldable pub field_of : (columns most : ℕ) → List ℕ → Option ℕ
field_of columns most bytes = cond (eqb (length bytes) columns) (up_to most (number (drop (spaces bytes) bytes))) None
