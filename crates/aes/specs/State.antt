-- The state of FIPS 197, section 3.4: four columns of four bytes. A word is a column, and a round key is a state of four words.
use Rattle.std.specs.Prelude.{List, [], ◌∷◌, ℕ, ◌+◌, ◌*◌, ◌<◌, get_or}
use Rattle.bits.specs.Xor.{◌⊕◌}
use Rattle.table.specs.Balanced.{at}

abbrev pub Word : Type 0
Word = List ℕ

abbrev pub State : Type 0
State = List Word

unfoldable pub four : {A : Type 0} → (ℕ → A) → List A
four rule = rule 0 ∷ rule 1 ∷ rule 2 ∷ rule 3 ∷ []

unfoldable pub column : State → (c : ℕ) → Word
column s c = get_or s c []

-- s[r, c], the byte in row r and column c
unfoldable pub byte : State → (r c : ℕ) → ℕ
byte s r c = at (column s c) r

-- the state whose byte in row r and column c is as the rule says
unfoldable pub state_of : (rule : (r c : ℕ) → ℕ) → State
state_of rule = four (λ c. four (λ r. rule r c))

-- four bytes of a list from a position on as a word, and sixteen as a state: s[r, c] is byte r + 4c
unfoldable pub word_from : (bytes : List ℕ) → (position : ℕ) → Word
word_from bytes p = four (λ r. at bytes (p + r))

unfoldable pub state_from : (bytes : List ℕ) → (position : ℕ) → State
state_from bytes p = four (λ c. word_from bytes (p + 4 * c))

-- two words, byte by byte
unfoldable pub add_words : Word → Word → Word
add_words u v = four (λ r. at u r ⊕ at v r)

-- its bytes are bytes, as those of the code's arrays are
unfoldable pub Bytes : State → Type 0
Bytes s = (r c : ℕ) → byte s r c < 256
