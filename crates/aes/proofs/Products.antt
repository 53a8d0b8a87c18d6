-- The products of column mixing are as the code forms them, for every byte; and so are the round constants.
use mathlib.Core.Path.{◌≡◌, refl}
use mathlib.Core.Bool.{true}
use mathlib.Core.List.{List, [], ◌∷◌}
use Prim.Native.Nat.{ℕ, ◌*◌, ◌/◌, ◌<◌}
use borrow.Author.Tests.{eqb-true, ltb-true}
use mir.Syntax.{w8}
use mir.Val.{Fits}
use lib.Bits.{bit_xor}
use lib.Dec.{eqb, ltb}
use lib.ListN.{get_or}
use Rattle.bits.specs.Xor.{◌⊕◌}
use Rattle.table.specs.Balanced.{all_below}
use Rattle.table.proofs.Balanced.{below}
use Rattle.sbox.specs.Field.{xtime, times_bits, times}
use Rattle.aes.specs.Expansion.{x_power}

-- twice the byte, and where that has a ninth bit, the field's polynomial added
unfoldable pub doubled : ℕ → ℕ
doubled b = b * 2 ⊕ b * 2 / 256 * 0x11b

-- rules that agree on each byte, by computation
agree : (f g : ℕ → ℕ) → all_below 256 (λ b. eqb (f b) (g b)) ≡ true → (b : ℕ) → b < 256 → f b ≡ g b
agree f g e b h = eqb-true (f b) (g b) (below 256 (λ i. eqb (f i) (g i)) e b h)

pub doubles : (b : ℕ) → b < 256 → doubled b ≡ times 2 b
unfolding all_below doubled times times_bits xtime ◌⊕◌
doubles = agree doubled (times 2) refl

pub triples : (b : ℕ) → b < 256 → times 2 b ⊕ b ≡ times 3 b
unfolding all_below times times_bits xtime ◌⊕◌
triples = agree (λ b. times 2 b ⊕ b) (times 3) refl

pub doubled_fits : (b : ℕ) → b < 256 → Fits w8 (bit_xor (b * 2) (b * 2 / 256 * 0x11b))
unfolding all_below
doubled_fits b h = record { fits = ltb-true _ 256 (below 256 (λ i. ltb (bit_xor (i * 2) (i * 2 / 256 * 0x11b)) 256) refl b h) }

-- the round constants are the powers of x
pub constants : (i : ℕ) → i < 10 → get_or (0x01 ∷ 0x02 ∷ 0x04 ∷ 0x08 ∷ 0x10 ∷ 0x20 ∷ 0x40 ∷ 0x80 ∷ 0x1b ∷ 0x36 ∷ []) i 0 ≡ x_power i
unfolding all_below x_power xtime ◌⊕◌
constants i h =
    let table : List ℕ = 0x01 ∷ 0x02 ∷ 0x04 ∷ 0x08 ∷ 0x10 ∷ 0x20 ∷ 0x40 ∷ 0x80 ∷ 0x1b ∷ 0x36 ∷ [] in
    eqb-true _ _ (below 10 (λ k. eqb (get_or table k 0) (x_power k)) refl i h)
