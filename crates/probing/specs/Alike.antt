-- When two values that an algorithm shows tell nothing of its secrets: whatever an observer computes from the two, it comes out equally
-- often, over all choices of the masks, for the secrets hs and for the secrets ts.
use Rattle.std.specs.Prelude.{◌≡◌, List, map, ℕ, ◌+◌, ◌^◌, ◌≤◌, ◌<◌, length}
use Rattle.bits.specs.Xor.{◌⊕◌}
use Rattle.counting.specs.Sum.{sum}
use Rattle.counting.specs.Choice.{over, Within}
use Rattle.probing.specs.Expression.{Expression, System, Setting, table, value}

-- the widths of numbers of these classes, and numbers of them: past the list each is 0
abbrev pub widths : Setting → (classes : List ℕ) → List ℕ
widths setting classes = map setting.width classes

abbrev pub Valid : Setting → (classes : List ℕ) → (ℕ → ℕ) → Type 0
Valid setting classes numbers = Within (widths setting classes) numbers

-- what an observer of two values counts over all choices of the masks
abbrev pub seen : System → Setting → (secrets : ℕ → ℕ) → (observer : ℕ → ℕ → ℕ) → Expression → Expression → ℕ
seen system setting secrets observer e f =
    over (widths setting system.masks) (λ masks. observer (value setting secrets masks e) (value setting secrets masks f))

abbrev pub Alike : System → Setting → (hs ts : ℕ → ℕ) → Expression → Expression → Type 0
Alike system setting hs ts e f = (observer : ℕ → ℕ → ℕ) → seen system setting hs observer e f ≡ seen system setting ts observer e f

-- added to all the entries of a table, the difference only puts them in another order
abbrev pub EvenFor : (size : ℕ) → (entry : ℕ → ℕ) → (difference : ℕ) → Type 0
EvenFor size entry d = (observer : ℕ → ℕ) → sum size (λ z. observer (entry z ⊕ d)) ≡ sum size (λ z. observer (entry z))

-- What is assumed of the values. The secrets are of their classes; a comparison's result, 0 or 1, fits its class; a word is twice as wide as
-- its halves, and a bit is one bit wide; a table's entries are of their class, and it is even for the two values of the secret that is one of its
-- entries. Nothing is assumed of how the secrets hang together.
pub record Known (system : System) (setting : Setting) (hs ts : ℕ → ℕ) : Type 0 where
  pub before : Valid setting system.secrets hs
  pub after : Valid setting system.secrets ts
  pub flag : 1 ≤ setting.width system.flag
  pub halves : setting.width system.word ≡ setting.width system.part + setting.width system.part
  pub bit : setting.width system.bit ≡ 1
  pub entries : (t : ℕ) → t < length system.tables → (index : ℕ) → setting.tables t index < 2 ^ setting.width (table system t).to
  pub even : (t : ℕ) → t < length system.tables
      → EvenFor (2 ^ setting.width (table system t).from) (setting.tables t) (hs (table system t).output ⊕ ts (table system t).output)
