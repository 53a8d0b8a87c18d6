-- The field GF(2^8) of FIPS 197, section 4: a byte is a polynomial over the bits, and products are taken modulo x^8 + x^4 + x^3 + x + 1.
use Rattle.std.specs.Prelude.{true, false, ℕ, zero, suc, ◌-◌, ◌*◌, ◌/◌, ◌%◌, ltb}
use Rattle.bits.specs.Xor.{◌⊕◌}

-- the product with x: a shift, and where x^8 comes up, x^4 + x^3 + x + 1 in its place
unfoldable pub xtime : ℕ → ℕ
xtime a = elim (ltb a 128) [ true ↦ a * 2 | false ↦ 0x1b ⊕ (a * 2 - 256) ]

-- a times the polynomial of b's lowest k bits
unfoldable pub times_bits : ℕ → ℕ → ℕ → ℕ
times_bits zero a b = 0
times_bits (suc k) a b = b % 2 * a ⊕ xtime (times_bits k a (b / 2))

unfoldable pub times : ℕ → ℕ → ℕ
times a b = times_bits 8 a b

unfoldable pub square : ℕ → ℕ
square a = times a a

-- b^254, for 254 = 240 + 12 + 2: the inverse of b where b is not 0, and 0 of 0
unfoldable pub inverse : ℕ → ℕ
inverse b =
    let b2 = square b in
    let b3 = times b2 b in
    let b12 = square (square b3) in
    let b240 = square (square (square (square (times b12 b3)))) in
    times b240 (times b12 b2)
