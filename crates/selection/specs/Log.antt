-- The log of a selection: what the choice is given, what it makes of the bit and of both halves, and the shares of the result.
use Rattle.std.specs.Prelude.{List, [], ◌∷◌, ◌++◌, ℕ, ◌-◌}
use Rattle.bits.specs.Xor.{◌⊕◌}
use Rattle.log_entries.specs.Entries.{entries}
use Rattle.halves.specs.declared.Selection.{Selection}
use Rattle.halves.specs.Halves.{half, c3, masked, share}

-- the shares of the bit, the masks, and what the place is made of
unfoldable pub bit_values : Selection → List ℕ
bit_values s = s.c0 ∷ s.c1 ∷ s.c2 ∷ s.t1 ∷ s.t2 ∷ s.b ∷ (s.c1 ⊕ s.b) ∷ c3 s ∷ []

-- the seven values that are made of the half for a bit
unfoldable pub half_values : Selection → (bit : ℕ) → List ℕ
half_values s bit =
    half s.width bit s.z0 ∷ masked 0 s bit
    ∷ half s.width bit s.z1 ∷ masked 1 s bit
    ∷ half s.width bit s.z2 ∷ (half s.width bit s.z2 ⊕ s.t1) ∷ masked 2 s bit
    ∷ []

-- The log, whose kinds are the rows of the source's Table 3, in which row 24 is missing: what the choice is given and makes of the bit; both
-- halves, first the one for c0; and the shares of the result.
unfoldable pub input_entries : Selection → List ℕ
input_entries s =
    entries (1 ∷ 2 ∷ 3 ∷ []) (s.z0 ∷ s.z1 ∷ s.z2 ∷ []) ++ entries (11 ∷ 4 ∷ 5 ∷ 6 ∷ 7 ∷ 8 ∷ 9 ∷ 10 ∷ []) (bit_values s)

unfoldable pub half_entries : Selection → List ℕ
half_entries s =
    entries (12 ∷ 13 ∷ 14 ∷ 15 ∷ 16 ∷ 17 ∷ 18 ∷ []) (half_values s s.c0)
    ++ entries (19 ∷ 20 ∷ 21 ∷ 22 ∷ 23 ∷ 25 ∷ 26 ∷ []) (half_values s (1 - s.c0))

unfoldable pub share_entries : Selection → List ℕ
share_entries s = entries (27 ∷ 28 ∷ 29 ∷ []) (share 0 s ∷ share 1 s ∷ share 2 s ∷ [])

unfoldable pub log_of : Selection → List ℕ
log_of s = input_entries s ++ half_entries s ++ share_entries s
