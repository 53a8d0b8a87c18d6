-- A row of a log: its kind, and what it shows of a case and a table at turn a. Here are the values that methods share.
use Rattle.std.specs.Prelude.{List, map, ℕ}
use Rattle.bits.specs.Xor.{◌⊕◌}
use Rattle.table.specs.Balanced.{at}
use Rattle.lookup.specs.declared.Case.{Case}
use Rattle.lookup.specs.Entry.{entry}

abbrev pub Value : Type 0
Value = Case → (table : List ℕ) → (turn : ℕ) → ℕ

pub record Row : Type 0 where
  pub kind : ℕ
  pub value : Value

infix 68 ◌∶◌
abbrev pub ◌∶◌ : (kind : ℕ) → Value → Row
kind ∶ value = record { kind = kind; value = value }

abbrev pub kinds : List Row → List ℕ
kinds rows = map (λ r. r.kind) rows

abbrev pub values : Case → (table : List ℕ) → (turn : ℕ) → List Row → List ℕ
values c table a rows = map (λ r. r.value c table a) rows

-- a row's entry
abbrev pub row_entry : Case → (table : List ℕ) → (turn : ℕ) → Row → ℕ
row_entry c table a r = entry r.kind (r.value c table a)

abbrev pub x0 : Value
x0 c table a = c.x0

abbrev pub r1 : Value
r1 c table a = c.r1

abbrev pub r2 : Value
r2 c table a = c.r2

abbrev pub r3 : Value
r3 c table a = c.r3

abbrev pub s1 : Value
s1 c table a = c.s1

abbrev pub s2 : Value
s2 c table a = c.s2

abbrev pub b : Value
b c table a = c.b

-- the loop number
abbrev pub turn : Value
turn c table a = a

-- x0 ⊕ a
abbrev pub index : Value
index c table a = c.x0 ⊕ a

-- S[x0 ⊕ a], the last ⊕ s1, and the last ⊕ s2
abbrev pub looked_up : Value
looked_up c table a = at table (c.x0 ⊕ a)

abbrev pub once_masked : Value
once_masked c table a = at table (c.x0 ⊕ a) ⊕ c.s1

unfoldable pub masked : Value
masked c table a = at table (c.x0 ⊕ a) ⊕ c.s1 ⊕ c.s2
