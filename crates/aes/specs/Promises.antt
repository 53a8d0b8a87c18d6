-- What is promised of the definitions. Each is a type; its proof stands in proofs/Promises.antt.
use Rattle.std.specs.Prelude.{◌≡◌, cond, List, [], ◌∷◌, ◌++◌, map, ℕ, zero, suc, ◌+◌, ◌/◌, ◌%◌, eqb}
use Rattle.aes.specs.State.{Word, State, state_from, add_words}
use Rattle.aes.specs.Expansion.{rot_word, sub_word, rcon, round_key, word}
use Rattle.aes.specs.Cipher.{cipher}

-- so many bytes of a number, highest first, as FIPS 197 prints them
unfoldable pub bytes : (count number : ℕ) → List ℕ
bytes zero v = []
bytes (suc k) v = bytes k (v / 256) ++ v % 256 ∷ []

unfoldable pub block : (number : ℕ) → State
block v = state_from (bytes 16 v) 0

unfoldable pub example_key : State
example_key = block 0x2b7e151628aed2a6abf7158809cf4f3c

-- the words that appendix A.1 prints, from w[0] on
abbrev pub example_words : List ℕ
example_words =
    0x2b7e1516 ∷ 0x28aed2a6 ∷ 0xabf71588 ∷ 0x09cf4f3c ∷ 0xa0fafe17 ∷ 0x88542cb1 ∷ 0x23a33939 ∷ 0x2a6c7605
    ∷ 0xf2c295f2 ∷ 0x7a96b943 ∷ 0x5935807a ∷ 0x7359f67f ∷ 0x3d80477d ∷ 0x4716fe3e ∷ 0x1e237e44 ∷ 0x6d7a883b
    ∷ 0xef44a541 ∷ 0xa8525b7f ∷ 0xb671253b ∷ 0xdb0bad00 ∷ 0xd4d1c6f8 ∷ 0x7c839d87 ∷ 0xcaf2b8bc ∷ 0x11f915bc
    ∷ 0x6d88a37a ∷ 0x110b3efd ∷ 0xdbf98641 ∷ 0xca0093fd ∷ 0x4e54f70e ∷ 0x5f5fc9f3 ∷ 0x84a64fb2 ∷ 0x4ea6dc4f
    ∷ 0xead27321 ∷ 0xb58dbad2 ∷ 0x312bf560 ∷ 0x7f8d292f ∷ 0xac7766f3 ∷ 0x19fadc21 ∷ 0x28d12941 ∷ 0x575c006e
    ∷ 0xd014f9a8 ∷ 0xc9ee2589 ∷ 0xe13f0cc8 ∷ 0xb6630ca6
    ∷ []

-- the words of round keys 0 to i
unfoldable pub words_up_to : (key : State) → (i : ℕ) → List Word
words_up_to key zero = key
words_up_to key (suc i) = words_up_to key i ++ round_key key (suc i)

-- FIPS 197, appendix A.1: the expansion of the example key, with all 44 words; B: the example cipher; C.1: the one for AES-128
unfoldable pub Appendices : Type 0
Appendices =
    (words_up_to example_key 10 ≡ map (bytes 4) example_words)
    × (cipher (block 0x3243f6a8885a308d313198a2e0370734) example_key ≡ block 0x3925841d02dc09fbdc118597196a0b32)
    × (cipher (block 0x00112233445566778899aabbccddeeff) (block 0x000102030405060708090a0b0c0d0e0f) ≡ block 0x69c4e0d86a7b0430d8cdb78070b4c55a)

-- the key expansion as section 5.2 has it, word by word: w[i + 4] is w[i] ⊕ w[i + 3], and where 4 divides i, the latter is rotated,
-- substituted and has the round constant added
unfoldable pub temp : (key : State) → (i : ℕ) → Word
temp key i = cond (eqb (i % 4) 0) (add_words (sub_word (rot_word (word key (i + 3)))) (rcon (i / 4))) (word key (i + 3))

unfoldable pub ExpansionRight : Type 0
ExpansionRight = (key : State) (i : ℕ) → word key (i + 4) ≡ add_words (word key i) (temp key i)
