-- The key expansion word by word, as FIPS 197 has it.
use mathlib.Core.Path.{◌≡◌, refl}
use mathlib.Core.Bool.{false}
use Prim.Native.Nat.{ℕ, zero, suc, ◌+◌, ◌*◌, ◌/◌, ◌%◌, ◌<◌}
use native.Mathlib.Omega.{arith}
use native.Mathlib.Nat.{mod-lt}
use borrow.Author.Tests.{ne_eqb}
use lib.Dec.{lit<, eqb}
use Rattle.aes.specs.State.{Word, State, column, add_words}
use Rattle.aes.specs.Expansion.{next_words, next_key, round_key, word}
use Rattle.aes.specs.Promises.{temp, ExpansionRight}

first_word : (k : State) (changed : Word) → column (next_words k changed) 0 ≡ add_words (column k 0) changed
unfolding next_words column
first_word k changed = refl

-- each word behind the first is the one before it, added to the one four before
word_behind : (k : State) (changed : Word) (s : ℕ) → s < 3
    → column (next_words k changed) (suc s) ≡ add_words (column k (suc s)) (column (next_words k changed) s)
unfolding next_words column
word_behind k changed zero h = refl
word_behind k changed (suc zero) h = refl
word_behind k changed (suc (suc zero)) h = refl
word_behind k changed (suc (suc (suc s))) h = absurd (omega arith)

-- by the word's place in its round key
expanded : (key : State) (i q r : ℕ) → i ≡ 4 * q + r → r < 4 → word key (i + 4) ≡ add_words (word key i) (temp key i)
unfolding word temp round_key next_key
expanded key i q zero e h =
    let round : (i + 4) / 4 ≡ suc q = omega arith in
    let before : (i + 3) / 4 ≡ q = omega arith in
    let last : (i + 3) % 4 ≡ 3 = omega arith in
    let here : i / 4 ≡ q = omega arith in
    let first : i % 4 ≡ 0 = omega arith in
    let place : (i + 4) % 4 ≡ 0 = omega arith in
    rw (round, place, before, last, here, first) (first_word (round_key key q) _)
expanded key i q (suc s) e h =
    let round : (i + 4) / 4 ≡ suc q = omega arith in
    let before : (i + 3) / 4 ≡ suc q = omega arith in
    let last : (i + 3) % 4 ≡ s = omega arith in
    let here : i / 4 ≡ q = omega arith in
    let place : i % 4 ≡ suc s = omega arith in
    let later : (i + 4) % 4 ≡ suc s = omega arith in
    let behind : eqb (suc s) 0 ≡ false = ne_eqb (suc s) 0 (λ z. omega arith) in
    rw (round, later, before, last, here, place, behind) (word_behind (round_key key q) _ s (omega arith))

pub expansion_right : ExpansionRight
unfolding ExpansionRight
expansion_right key i = expanded key i (i / 4) (i % 4) (omega arith) (mod-lt i (lit< tt))
