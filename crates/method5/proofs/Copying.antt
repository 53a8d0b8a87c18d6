-- What the loops that fill a half of the scratch keep: as many of its bytes as there were turns are copied.
use mathlib.Core.Path.{◌≡◌, refl, sym, ap, ◌∙◌}
use mathlib.Core.List.{List}
use Prim.Native.Nat.{ℕ, ◌+◌, ◌*◌, ◌^◌, ◌≤◌, ◌<◌}
use native.Mathlib.Nat.{zero-add, lt_of_lt_of_le}
use native.Mathlib.Omega.{arith}
use lib.ListN.{length, get_or, set, length-set}
use Rattle.bits.specs.Xor.{◌⊕◌}
use Rattle.bits.proofs.Xor.{below}
use Rattle.buffers.specs.Written.{written}
use Rattle.buffers.proofs.Pasting.{Pasting, pasting_begins, pasting_turns, pasting_ends, pasting_keeps}
use Rattle.table.specs.Balanced.{at}
use Rattle.table.specs.Tabulate.{tabulate}
use Rattle.table.proofs.Tabulate.{tabulate_at, tabulate_long}
use Rattle.lookup.specs.declared.Case.{Case}
use Rattle.lookup.specs.Case.{Q}
use Rattle.lookup.specs.Bounded.{Bounded}
use Rattle.lookup.specs.Method5.{copied, first_half, second_half}

-- a half that starts at a position, copied from a list under the masks r and s
module _ (c : Case) (r s : ℕ) (from before : List ℕ) (start : ℕ) where
  pub record Copying (now : List ℕ) (a : ℕ) : Type 0 where
    pub pasting : Pasting before now start (tabulate (Q c) (copied r s from)) a
    pub within : a ≤ 2 ^ c.n
    pub long : length now ≡ length before

  abbrev half : List ℕ
  half = tabulate (Q c) (copied r s from)

  half_long : length half ≡ 2 ^ c.n
  unfolding Q
  half_long = tabulate_long (2 ^ c.n) (copied r s from)

  pub copying_begins : Copying before 0
  copying_begins = record { pasting = pasting_begins before start half; within = omega arith; long = refl }

  pub copying_turns : (now : List ℕ) (size a place value : ℕ) → size ≡ 2 ^ c.n → a < size → start + 2 ^ c.n ≤ length before
      → place ≡ start + a → value ≡ copied r s from a
      → Copying now a → Copying (set now place value) (a + 1)
  unfolding at Q
  copying_turns now size a place value e h room p v k =
      let told : value ≡ get_or half a 0 = v ∙ sym (tabulate_at (2 ^ c.n) (copied r s from) a (rw e at h)) in
      record {
        pasting = rw p (pasting_turns before start half now a value (omega (arith, half_long)) (omega (arith, half_long)) told k.pasting);
        within = omega arith;
        long = simp length-set k.long;
      }

  pub copying_ends : (now : List ℕ) (size a : ℕ) → size ≡ 2 ^ c.n → size ≤ a → Copying now a → now ≡ written before start half
  copying_ends now size a e h k = pasting_ends before start half now a (omega (arith, half_long)) k.pasting

  -- the byte of a turn is in the scratch
  copying_place : (now : List ℕ) (a : ℕ) → a < 2 ^ c.n → start + 2 ^ c.n ≤ length before → Copying now a → start + a < length now
  copying_place now a h room k = omega (arith, k.long)

-- a turn's index is in the table, in the first half and in a byte
module _ (c : Case) (k : Bounded c) (a r : ℕ) (h : a < 2 ^ c.n) (l : r < 2 ^ c.n) where
  pub index_byte : a ⊕ r < 256
  index_byte = lt_of_lt_of_le (below c.n h l) k.size

  pub index_in_table : (table : List ℕ) → length table ≡ 2 ^ c.n → a ⊕ r < length table
  index_in_table table long = rw long (below c.n h l)

  pub index_in_half : (scratch : List ℕ) → 2 * 2 ^ c.n ≤ length scratch → a ⊕ r < length scratch
  index_in_half scratch room = omega (arith, below c.n h l)

-- the first half, from the table
module _ (c : Case) (table before : List ℕ) where
  abbrev pub First : (now : List ℕ) → (a : ℕ) → Type 0
  First now a = Copying c c.r1 c.s1 table before 0 now a

  pub first_index : (size a r : ℕ) → length table ≡ 2 ^ c.n → size ≡ 2 ^ c.n → a < size → r < 2 ^ c.n → a ⊕ r < length table
  first_index size a r long e h l = rw long (below c.n (rw e at h) l)

  module _ (now : List ℕ) (size a : ℕ) (e : size ≡ 2 ^ c.n) where
    pub first_place : a < size → 2 * 2 ^ c.n ≤ length before → First now a → a < length now
    first_place h room k =
        let inside = copying_place c c.r1 c.s1 table before 0 now a (rw e at h) (omega arith) k in
        omega (arith, inside)

    pub first_turns : (value : ℕ) → a < size → 2 * 2 ^ c.n ≤ length before → value ≡ copied c.r1 c.s1 table a
        → First now a → First (set now a value) (a + 1)
    first_turns value h room v k =
        copying_turns c c.r1 c.s1 table before 0 now size a a value e h (omega arith) (sym (zero-add a)) v k

    pub first_ends : size ≤ a → First now a → now ≡ written before 0 (first_half c table)
    first_ends h k = copying_ends c c.r1 c.s1 table before 0 now size a e h k

-- the second half, from what stands before it in the scratch
module _ (c : Case) (before : List ℕ) where
  abbrev pub Second : (now : List ℕ) → (a : ℕ) → Type 0
  Second now a = Copying c c.r2 c.s2 before before (2 ^ c.n) now a

  module _ (now : List ℕ) (size a : ℕ) (e : size ≡ 2 ^ c.n) where
    index : (r : ℕ) → a < size → r < 2 ^ c.n → a ⊕ r < 2 ^ c.n
    index r h l = below c.n (rw e at h) l

    pub second_index : (r : ℕ) → a < size → r < 2 ^ c.n → 2 * 2 ^ c.n ≤ length before → Second now a → a ⊕ r < length now
    second_index r h l room k = omega (arith, index r h l, k.long)

    pub second_place : a < size → 2 * 2 ^ c.n ≤ length before → Second now a → size + a < length now
    second_place h room k = rw e (copying_place c c.r2 c.s2 before before (2 ^ c.n) now a (rw e at h) (omega arith) k)

    -- no turn has touched what is read
    pub still_read : Bounded c → a < size → 2 * 2 ^ c.n ≤ length before → Second now a → at now (a ⊕ c.r2) ≡ at before (a ⊕ c.r2)
    unfolding at
    still_read b h room k =
        pasting_keeps before (2 ^ c.n) _ now a (a ⊕ c.r2) (omega arith) (index c.r2 h b.r2) k.pasting

    pub second_turns : (value : ℕ) → Bounded c → a < size → 2 * 2 ^ c.n ≤ length before → value ≡ copied c.r2 c.s2 now a
        → Second now a → Second (set now (size + a) value) (a + 1)
    unfolding copied
    second_turns value b h room v k =
        let told : value ≡ copied c.r2 c.s2 before a = v ∙ ap (λ read. read ⊕ c.s2) (still_read b h room k) in
        copying_turns c c.r2 c.s2 before before (2 ^ c.n) now size a (size + a) value e h (omega arith) (rw e) told k

    pub second_ends : size ≤ a → Second now a → now ≡ written before (Q c) (second_half c before)
    unfolding Q
    second_ends h k = copying_ends c c.r2 c.s2 before before (2 ^ c.n) now size a e h k
