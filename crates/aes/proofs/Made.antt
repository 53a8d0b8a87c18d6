-- What the code makes of four calls' results is what the definitions make of four.
use mathlib.Core.Path.{◌≡◌}
use mathlib.Core.List.{List, [], ◌∷◌}
use Prim.Native.Nat.{ℕ, ◌+◌, ◌*◌}
use native.Mathlib.Nat.{add-zero}
use native.Mathlib.Omega.{arith}
use lib.Bits.{bit_xor}
use lib.ListN.{get_or}
use Rattle.bits.specs.Xor.{◌⊕◌}
use Rattle.table.specs.Balanced.{at}
use Rattle.sbox.specs.Field.{times}
use Rattle.aes.specs.State.{Word, State, four, column, word_from, state_from, add_words}
use Rattle.aes.specs.Steps.{mixed_byte, mix_column}
use Rattle.aes.specs.Expansion.{next_words}

pub four_made : {A : Type 0} (rule : ℕ → A) (a b c d : A) → a ≡ rule 0 → b ≡ rule 1 → c ≡ rule 2 → d ≡ rule 3
    → ◌≡◌ {A = List A} (a ∷ b ∷ c ∷ d ∷ []) (four rule)
unfolding four
four_made rule a b c d e f g h = rw (e, f, g, h)

-- each word of the next round key is made with the one before it
pub words_made : (k : State) (changed w0 w1 w2 w3 : Word) → w0 ≡ add_words (get_or k 0 []) changed → w1 ≡ add_words (get_or k 1 []) w0
    → w2 ≡ add_words (get_or k 2 []) w1 → w3 ≡ add_words (get_or k 3 []) w2
    → ◌≡◌ {A = State} (w0 ∷ w1 ∷ w2 ∷ w3 ∷ []) (next_words k changed)
unfolding next_words column
words_made k changed w0 w1 w2 w3 e f g h = rw (h, g, f, e)

-- a mixed byte, from a double, a triple and the bytes of the other two rows
pub column_made : (w : Word) (d0 d1 d2 d3 t0 t1 t2 t3 : ℕ)
    → d0 ≡ times 2 (get_or w 0 0) → d1 ≡ times 2 (get_or w 1 0) → d2 ≡ times 2 (get_or w 2 0) → d3 ≡ times 2 (get_or w 3 0)
    → t0 ≡ times 3 (get_or w 0 0) → t1 ≡ times 3 (get_or w 1 0) → t2 ≡ times 3 (get_or w 2 0) → t3 ≡ times 3 (get_or w 3 0)
    → ◌≡◌ {A = Word}
    (bit_xor (bit_xor (bit_xor d0 t1) (get_or w 2 0)) (get_or w 3 0) ∷ bit_xor (bit_xor (bit_xor d1 t2) (get_or w 3 0)) (get_or w 0 0)
    ∷ bit_xor (bit_xor (bit_xor d2 t3) (get_or w 0 0)) (get_or w 1 0) ∷ bit_xor (bit_xor (bit_xor d3 t0) (get_or w 1 0)) (get_or w 2 0) ∷ [])
    (mix_column w)
unfolding mix_column four mixed_byte at ◌⊕◌
column_made w d0 d1 d2 d3 t0 t1 t2 t3 a b c d e f g h = rw (a, b, c, d, e, f, g, h)

-- words and states, from a list's bytes
pub word_from_made : (bytes : List ℕ) (p : ℕ)
    → ◌≡◌ {A = Word} (get_or bytes p 0 ∷ get_or bytes (p + 1) 0 ∷ get_or bytes (p + 2) 0 ∷ get_or bytes (p + 3) 0 ∷ []) (word_from bytes p)
unfolding word_from four at
word_from_made bytes p = rw (add-zero p)

first_place : (p : ℕ) → p + 4 * 0 ≡ p
first_place p = omega arith

pub state_from_made : (bytes : List ℕ) (p : ℕ) (a b c d : Word) → a ≡ word_from bytes p → b ≡ word_from bytes (p + 4)
    → c ≡ word_from bytes (p + 8) → d ≡ word_from bytes (p + 12)
    → ◌≡◌ {A = State} (a ∷ b ∷ c ∷ d ∷ []) (state_from bytes p)
unfolding state_from four
state_from_made bytes p a b c d e f g h = rw (e, f, g, h, first_place p)
