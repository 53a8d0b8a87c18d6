-- Little-endian numbers in a list of bytes: a length of two bytes and a number of four; a byte past the end is 0.
use Rattle.std.specs.Prelude.{List, ℕ, ◌+◌, ◌*◌, get_or}

abbrev pub length_at : List ℕ → ℕ → ℕ
length_at bytes at = get_or bytes at 0 + 256 * get_or bytes (at + 1) 0

abbrev pub number_at : List ℕ → ℕ → ℕ
number_at bytes at = length_at bytes at + 65536 * length_at bytes (at + 2)
