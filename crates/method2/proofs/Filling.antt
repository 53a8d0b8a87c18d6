-- What the loop that fills the scratch keeps: the scratch is what the definition gives after as many turns.
use mathlib.Core.Path.{◌≡◌, refl, sym, ap, ◌∙◌}
use mathlib.Core.List.{List}
use Prim.Native.Nat.{ℕ, ◌+◌, ◌^◌, ◌≤◌, ◌<◌}
use native.Mathlib.Numerals.{add-one}
use native.Mathlib.Omega.{arith}
use mir.Syntax.{w8}
use mir.Val.{Fits}
use lib.Bits.{bit_xor}
use lib.ListN.{length, get_or, set, length-set}
use Rattle.bits.specs.Xor.{◌⊕◌}
use Rattle.bits.proofs.Xor.{below}
use Rattle.table.specs.Balanced.{at}
use Rattle.lookup.specs.declared.Case.{Case}
use Rattle.lookup.specs.Case.{Q}
use Rattle.lookup.specs.Bounded.{Bounded}
use Rattle.lookup.specs.Row.{masked}
use Rattle.lookup.specs.Method2.{r_prime, scratch_2, answer_2}
use Rattle.lookup.proofs.Second.{byte_r3, answer_2_is, r_prime_below}
use Rattle.lookup.proofs.Runs.{one_byte}

-- a turn's place, from the first turn's
pub from_first : (c : Case) (a first : ℕ) → first ≡ r_prime c → bit_xor a first ≡ a ⊕ r_prime c
unfolding ◌⊕◌
from_first c a first p = rw p

pub record Filling (c : Case) (table before now : List ℕ) (a : ℕ) : Type 0 where
  pub filled : now ≡ scratch_2 a c table before
  pub within : a ≤ 2 ^ c.n
  pub long : length now ≡ length before

module _ (c : Case) (table before : List ℕ) where
  pub filling_begins : Filling c table before before 0
  unfolding scratch_2
  filling_begins = record { filled = refl; within = omega arith; long = refl }

  -- one turn more: place and value are what the calls told
  pub filling_turns : (now : List ℕ) (size a place value : ℕ) → size ≡ 2 ^ c.n → a < size → place ≡ a ⊕ r_prime c
      → value ≡ masked c table a
      → Filling c table before now a → Filling c table before (set now place value) (a + 1)
  unfolding scratch_2
  filling_turns now size a place value s h p v f =
      record {
        filled = rw (p, v, f.filled, add-one);
        within = omega arith;
        long = simp length-set f.long;
      }

  -- the same, where a call has put the entry there
  pub filling_put : (now after : List ℕ) (size a place : ℕ) → after ≡ set now place (masked c table a) → size ≡ 2 ^ c.n → a < size
      → place ≡ a ⊕ r_prime c
      → Filling c table before now a → Filling c table before after (a + 1)
  filling_put now after size a place e s h p f = rw e (filling_turns now size a place _ s h p refl f)

  pub filling_ends : (now : List ℕ) (size a : ℕ) → size ≡ 2 ^ c.n → size ≤ a → Filling c table before now a
      → now ≡ scratch_2 (Q c) c table before
  unfolding Q
  filling_ends now size a s h f =
      let whole : a ≡ 2 ^ c.n = omega (arith, f.within) in
      f.filled ∙ ap (λ k. scratch_2 k c table before) whole

  -- a turn's place is in the scratch
  pub filling_in_scratch : (now : List ℕ) (size a place : ℕ) → Bounded c → 2 ^ c.n ≤ length before → size ≡ 2 ^ c.n → a < size
      → place ≡ a ⊕ r_prime c
      → Filling c table before now a → place < length now
  unfolding Q
  filling_in_scratch now size a place k room s h p f =
      let small : a ⊕ r_prime c < 2 ^ c.n = below c.n (rw s at h) (r_prime_below c k.r1 k.r2 k.r3) in
      omega (arith, p, f.long)

  -- byte r3 of the filled scratch is the answer
  pub filled_answers : (now : List ℕ) → Bounded c → 2 ^ c.n ≤ length before → now ≡ scratch_2 (Q c) c table before
      → get_or now c.r3 0 ≡ answer_2 c table
  unfolding at Q
  filled_answers now r room e =
      rw e (byte_r3 c table before room r.r1 r.r2 r.r3) ∙ sym (answer_2_is c table r.r1 r.r2 r.r3)

  pub read_answers : (answer : ℕ) (now : List ℕ) → Bounded c → 2 ^ c.n ≤ length before → now ≡ scratch_2 (Q c) c table before
      → answer ≡ get_or now c.r3 0
      → answer ≡ answer_2 c table
  read_answers answer now k room e told = told ∙ filled_answers now k room e

-- a turn's place fits a byte
pub place_byte : (c : Case) (a place : ℕ) → Bounded c → a < 2 ^ c.n → place ≡ a ⊕ r_prime c → Fits w8 place
unfolding Q
place_byte c a place k h p = rw p (one_byte c k (below c.n h (r_prime_below c k.r1 k.r2 k.r3)))
