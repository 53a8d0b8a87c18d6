-- What the loop keeps that selects the entry: the registers are what the definition gives after as many turns.
use mathlib.Core.Path.{◌≡◌, refl, ap, ◌∙◌}
use mathlib.Core.List.{List, [], ◌∷◌}
use Prim.Native.Nat.{ℕ, ◌+◌, ◌^◌, ◌≤◌, ◌<◌}
use native.Mathlib.Numerals.{add-one}
use native.Mathlib.Omega.{arith}
use lib.ListN.{length, get_or, set, take}
use Rattle.table.specs.Balanced.{at}
use Rattle.lookup.specs.declared.Case.{Case}
use Rattle.lookup.specs.Case.{Q}
use Rattle.lookup.specs.Bounded.{Bounded}
use Rattle.lookup.specs.Row.{masked}
use Rattle.lookup.specs.Method3.{comparison_table, place_3, compared, registers_3, answer_3}
use Rattle.method3.proofs.Comparing.{in_scratch, byte_is, bit}

pub record Selecting (c : Case) (table registers : List ℕ) (a : ℕ) : Type 0 where
  pub selected : registers ≡ registers_3 a c table
  pub within : a ≤ 2 ^ c.n

module _ (c : Case) (table : List ℕ) where
  pub selecting_begins : (registers : List ℕ) → registers ≡ 0 ∷ 0 ∷ [] → Selecting c table registers 0
  unfolding registers_3
  selecting_begins registers e = record { selected = e; within = omega arith }

  -- one turn more, with the bit that it compares and its entry
  pub selecting_turns : (registers : List ℕ) (size a cmp value : ℕ) → size ≡ 2 ^ c.n → a < size → cmp ≡ compared c a
      → value ≡ masked c table a
      → Selecting c table registers a → Selecting c table (set registers cmp value) (a + 1)
  unfolding registers_3
  selecting_turns registers size a cmp value s h p v f = record { selected = rw (p, v, f.selected, add-one); within = omega arith }

  pub selecting_ends : (registers : List ℕ) (size a : ℕ) → size ≡ 2 ^ c.n → size ≤ a → Selecting c table registers a
      → registers ≡ registers_3 (Q c) c table
  unfolding Q
  selecting_ends registers size a s h f =
      let whole : a ≡ 2 ^ c.n = omega (arith, f.within) in
      f.selected ∙ ap (λ k. registers_3 k c table) whole

  -- register b holds the answer
  pub selected_answers : (registers : List ℕ) → registers ≡ registers_3 (Q c) c table → get_or registers c.b 0 ≡ answer_3 c table
  unfolding answer_3 at
  selected_answers registers e = ap (λ l. get_or l c.b 0) e

  pub read_answers : (answer : ℕ) (registers : List ℕ) → registers ≡ registers_3 (Q c) c table → answer ≡ get_or registers c.b 0
      → answer ≡ answer_3 c table
  read_answers answer registers e told = told ∙ selected_answers registers e

-- a turn whose place the call told: the place is in the scratch, the byte there is a register's number, and the entry goes to that register
module _ (c : Case) (scratch : List ℕ) (size a place : ℕ) (k : Bounded c) (f : take (Q c) scratch ≡ comparison_table c) where
  pub place_in_scratch : size ≡ 2 ^ c.n → a < size → place ≡ place_3 c a → place < length scratch
  place_in_scratch s h p = rw p (in_scratch c scratch a k (rw s at h) f)

  byte_compared : size ≡ 2 ^ c.n → a < size → place ≡ place_3 c a → get_or scratch place 0 ≡ compared c a
  byte_compared s h p = rw p (byte_is c scratch a k (rw s at h) f)

  pub byte_a_register : size ≡ 2 ^ c.n → a < size → place ≡ place_3 c a → get_or scratch place 0 < 2
  byte_a_register s h p = rw (byte_compared s h p) (bit c scratch a k (rw s at h))

  pub selecting_put : (table registers after : List ℕ) → after ≡ set registers (get_or scratch place 0) (masked c table a) → size ≡ 2 ^ c.n
      → a < size → place ≡ place_3 c a
      → Selecting c table registers a → Selecting c table after (a + 1)
  selecting_put table registers after e s h p t = rw e (selecting_turns c table registers size a _ _ s h (byte_compared s h p) refl t)
