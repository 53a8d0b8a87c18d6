-- The rows of the methods' logs as expressions over secrets and masks: what the leak test reads. A call's rows take the places of its
-- masks and of its secrets, so that the same rows serve any call among several.
use Rattle.std.specs.Prelude.{List, [], ◌∷◌, ℕ}
use Rattle.counting.specs.Choice.{◌▸◌}
use Rattle.probing.specs.Expression.{Expression, secret, mask, number, ◌⊞◌, lookup, differ, System, Setting}
use Rattle.table.specs.Balanced.{at}
use Rattle.lookup.specs.Layout.{Layout}
use Rattle.lookup.specs.Method.{class_width}
use Rattle.secrecy.specs.Count.{MaskPlaces}

-- where a call's masks and secrets stand: its input x, the entry S[x], its table, and the class of the table's index
pub record CallPlaces : Type 0 where
  pub masks : MaskPlaces
  pub x : ℕ
  pub output : ℕ
  pub table : ℕ
  pub class : ℕ

-- a row's expression at turn a
abbrev pub Shown : Type 0
Shown = (turn : ℕ) → Expression

module _ (s : CallPlaces) where
  abbrev x0 : Shown
  x0 a = secret s.x ⊞ mask s.masks.r1 ⊞ mask s.masks.r2

  abbrev r1 : Shown
  r1 a = mask s.masks.r1

  abbrev r2 : Shown
  r2 a = mask s.masks.r2

  abbrev r3 : Shown
  r3 a = mask s.masks.r3

  abbrev s1 : Shown
  s1 a = mask s.masks.s1

  abbrev s2 : Shown
  s2 a = mask s.masks.s2

  abbrev b : Shown
  b a = mask s.masks.b

  abbrev turn : Shown
  turn a = number s.class a

  infixl 70 ◌⊕◌
  abbrev ◌⊕◌ : Shown → Shown → Shown
  (e ⊕ f) a = e a ⊞ f a

  -- S[x0 ⊕ a], and the answer S[x] ⊕ s1 ⊕ s2
  abbrev looked_up : Shown
  looked_up a = lookup s.table ((x0 ⊕ turn) a)

  abbrev answer : Shown
  answer a = secret s.output ⊞ mask s.masks.s1 ⊞ mask s.masks.s2

  abbrev pub pass_shown_2 : List Shown
  pass_shown_2 = turn ∷ turn ⊕ (r1 ⊕ r3 ⊕ r2) ∷ x0 ⊕ turn ∷ looked_up ∷ looked_up ⊕ s1 ∷ looked_up ⊕ s1 ⊕ s2 ∷ []

  abbrev pub shown_2 : Layout Shown
  shown_2 = record { head = x0 ∷ r1 ∷ r2 ∷ s1 ∷ s2 ∷ r3 ∷ r1 ⊕ r3 ∷ r1 ⊕ r3 ⊕ r2 ∷ []; passes = pass_shown_2 ∷ []; end = r3 ∷ answer ∷ [] }

  -- 1 - b is b ⊕ 1, and the comparison is b where nothing differs
  abbrev place : Shown
  place = r1 ⊕ turn ⊕ r3 ⊕ r2

  abbrev compared : Shown
  compared a = differ (place a) (r3 a) ⊞ b a

  abbrev other : Shown
  other a = b a ⊞ number 3 1

  abbrev pub pass_shown_3 : List Shown
  pass_shown_3 =
      turn ∷ r1 ⊕ turn ∷ r1 ⊕ turn ⊕ r3 ∷ place ∷ compared ∷ x0 ⊕ turn ∷ looked_up ∷ looked_up ⊕ s1 ∷ looked_up ⊕ s1 ⊕ s2 ∷ []

  abbrev pub shown_3 : Layout Shown
  shown_3 = record { head = x0 ∷ r1 ∷ r2 ∷ s1 ∷ s2 ∷ b ∷ r3 ∷ other ∷ []; passes = pass_shown_3 ∷ []; end = b ∷ answer ∷ [] }

  -- the table's entry that the first pass copies, and the byte that the second reads
  abbrev copied_first : Shown
  copied_first a = lookup s.table ((turn ⊕ r1) a)

  abbrev copied_second : Shown
  copied_second a = lookup s.table ((turn ⊕ r2 ⊕ r1) a) ⊞ mask s.masks.s1

  abbrev pub first_shown_5 : List Shown
  first_shown_5 = turn ∷ turn ⊕ r1 ∷ copied_first ∷ copied_first ⊕ s1 ∷ []

  abbrev pub second_shown_5 : List Shown
  second_shown_5 = turn ∷ turn ⊕ r2 ∷ copied_second ∷ copied_second ⊕ s2 ∷ []

  abbrev pub shown_5 : Layout Shown
  shown_5 = record { head = x0 ∷ r1 ∷ r2 ∷ s1 ∷ s2 ∷ []; passes = first_shown_5 ∷ second_shown_5 ∷ []; end = x0 ∷ answer ∷ [] }

-- what lies past the end of a log shows 0
abbrev pub nothing : Expression
nothing = number 0 0

-- a single call: masks of the classes that its method draws, the secrets x and S[x], and one table; no word of it has halves
abbrev pub system : (masks : List ℕ) → System
system masks =
    record {
      masks = masks;
      secrets = 0 ∷ 1 ∷ [];
      tables = record { from = 0; to = 1; output = 1 } ∷ [];
      flag = 3;
      word = 2;
      part = 2;
      bit = 3;
    }

abbrev pub alone : MaskPlaces → CallPlaces
alone places = record { masks = places; x = 0; output = 1; table = 0; class = 0 }

abbrev pub setting : (n m : ℕ) → (table : List ℕ) → Setting
setting n m table = record { width = class_width n m; tables = λ t. at table }

abbrev pub secrets : (table : List ℕ) → (x : ℕ) → ℕ → ℕ
secrets table x = x ▸ at table x ▸ (λ j. 0)
