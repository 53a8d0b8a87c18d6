-- What is promised of both calls that choose a half. Each is a type; its proof stands in proofs/Promises.antt.
use Rattle.std.specs.Prelude.{◌≡◌, List, [], ◌∷◌, ◌++◌, map, ℕ, ◌*◌, ◌^◌, ◌≤◌, ◌<◌, length, take, drop}
use Rattle.bits.specs.Xor.{◌⊕◌}
use Rattle.lookup.specs.Entry.{kind_of, value_of}
use Rattle.halves.specs.declared.Selection.{Selection}
use Rattle.halves.specs.Halves.{half, share}
use Rattle.selection.specs.Log.{log_of}
use Rattle.selection.specs.Select.{plain_select_refusal, select_refusal, select_reply, select_log, plain_select_share}

-- the word and the bit, which no call forms
abbrev pub word_of : Selection → ℕ
word_of s = s.z0 ⊕ s.z1 ⊕ s.z2

abbrev pub bit_of : Selection → ℕ
bit_of s = s.c0 ⊕ s.c1 ⊕ s.c2

-- what the calls ask for
abbrev pub Wanted : Selection → Type 0
Wanted s =
    (1 ≤ s.width) × (s.width ≤ 8) × (s.z0 < 2 ^ (2 * s.width)) × (s.z1 < 2 ^ (2 * s.width)) × (s.z2 < 2 ^ (2 * s.width)) × (s.c0 < 2)
    × (s.c1 < 2) × (s.c2 < 2) × (s.b < 2) × (s.t1 < 2 ^ s.width) × (s.t2 < 2 ^ s.width)

-- the call without a log is refused with 20 where the width is not 1 to 8, else with 21 where a number is too large, and else not
unfoldable pub RefusalsRight : Type 0
RefusalsRight =
    (s : Selection) →
    (s.width < 1 → plain_select_refusal s ≡ 20) × (8 < s.width → plain_select_refusal s ≡ 20)
    × (1 ≤ s.width → s.width ≤ 8 → (plain_select_refusal s ≡ 0 → ⊥) → plain_select_refusal s ≡ 21)
    × (plain_select_refusal s ≡ 0 → Wanted s) × (Wanted s → plain_select_refusal s ≡ 0)

-- the call with a log has the same refusal, and where there is none, 14 for a log that is too short
unfoldable pub LoggedRefusalsRight : Type 0
LoggedRefusalsRight =
    (s : Selection) (lent : List ℕ) →
    ((plain_select_refusal s ≡ 0 → ⊥) → select_refusal s lent ≡ plain_select_refusal s)
    × (plain_select_refusal s ≡ 0 → length lent < 28 → select_refusal s lent ≡ 14)
    × (plain_select_refusal s ≡ 0 → 28 ≤ length lent → select_refusal s lent ≡ 0)

-- the three shares of every accepted call join to the half of the word that the bit chooses
unfoldable pub SharesJoin : Type 0
SharesJoin =
    (s : Selection) (lent : List ℕ) → select_refusal s lent ≡ 0 →
    (select_reply s lent).first ⊕ (select_reply s lent).second ⊕ (select_reply s lent).third ≡ half s.width (bit_of s) (word_of s)

-- so do the three lent places, whatever they held
unfoldable pub PlacesJoin : Type 0
PlacesJoin =
    (s : Selection) (old0 old1 old2 : ℕ) → plain_select_refusal s ≡ 0 →
    plain_select_share 0 s old0 ⊕ plain_select_share 1 s old1 ⊕ plain_select_share 2 s old2 ≡ half s.width (bit_of s) (word_of s)

-- each of them is the half of one share of the word, under masks, and has the width of a half
unfoldable pub SharesChosen : Type 0
SharesChosen =
    (s : Selection) → plain_select_refusal s ≡ 0 →
    (share 0 s ≡ half s.width (bit_of s) s.z0 ⊕ s.t1)
    × (share 1 s ≡ half s.width (bit_of s) s.z1 ⊕ s.t2)
    × (share 2 s ≡ half s.width (bit_of s) s.z2 ⊕ s.t1 ⊕ s.t2)

unfoldable pub SharesSmall : Type 0
SharesSmall = (s : Selection) (pair : ℕ) → plain_select_refusal s ≡ 0 → share pair s < 2 ^ s.width

-- the values of the source's Table 3, its bars restored, in the order of the log, c being the joined bit; c0 ⊕ 1 is the other bit than c0
abbrev pub half_rows : Selection → (chooses : ℕ) → List ℕ
half_rows s chooses =
    half s.width chooses s.z0 ∷ (half s.width chooses s.z0 ⊕ s.t1)
    ∷ half s.width chooses s.z1 ∷ (half s.width chooses s.z1 ⊕ s.t2)
    ∷ half s.width chooses s.z2 ∷ (half s.width chooses s.z2 ⊕ s.t1) ∷ (half s.width chooses s.z2 ⊕ s.t1 ⊕ s.t2) ∷ []

abbrev pub table_3 : Selection → (c : ℕ) → List ℕ
table_3 s c =
    s.z0 ∷ s.z1 ∷ s.z2 ∷ s.c0 ∷ s.c1 ∷ s.c2 ∷ s.t1 ∷ s.t2 ∷ s.b ∷ (s.c1 ⊕ s.b) ∷ (s.c1 ⊕ s.b ⊕ s.c2)
    ∷ (half_rows s s.c0 ++ half_rows s (s.c0 ⊕ 1)
    ++ (half s.width c s.z0 ⊕ s.t1) ∷ (half s.width c s.z1 ⊕ s.t2) ∷ (half s.width c s.z2 ⊕ s.t1 ⊕ s.t2) ∷ [])

-- the kinds of the log, and its values
unfoldable pub LogOfRows : Type 0
LogOfRows =
    (s : Selection) → plain_select_refusal s ≡ 0 →
    (map kind_of (log_of s)
    ≡ 1 ∷ 2 ∷ 3 ∷ 11 ∷ 4 ∷ 5 ∷ 6 ∷ 7 ∷ 8 ∷ 9 ∷ 10 ∷ 12 ∷ 13 ∷ 14 ∷ 15 ∷ 16 ∷ 17 ∷ 18 ∷ 19 ∷ 20 ∷ 21 ∷ 22 ∷ 23 ∷ 25 ∷ 26 ∷ 27 ∷ 28 ∷ 29 ∷ [])
    × (map value_of (log_of s) ≡ table_3 s (bit_of s))

-- an accepted call hands back the count 28, and the log has its 28 entries and then what stood there
unfoldable pub AcceptedLeft : Type 0
AcceptedLeft =
    (s : Selection) (lent : List ℕ) → select_refusal s lent ≡ 0 →
    ((select_reply s lent).count ≡ 28) × (length (log_of s) ≡ 28) × (take 28 (select_log s lent) ≡ log_of s)
    × (drop 28 (select_log s lent) ≡ drop 28 lent)

-- a refused one hands back its number and zeros, and leaves the log and the places as they were
unfoldable pub RefusedKept : Type 0
RefusedKept =
    (s : Selection) (lent : List ℕ) (pair old : ℕ) →
    ((select_refusal s lent ≡ 0 → ⊥)
    → (select_reply s lent ≡ record { refusal = select_refusal s lent; first = 0; second = 0; third = 0; count = 0 })
    × (select_log s lent ≡ lent))
    × ((plain_select_refusal s ≡ 0 → ⊥) → plain_select_share pair s old ≡ old)

-- an accepted call with a log was one without a log too, and hands back what that one puts in its places
unfoldable pub LoggedAsPlain : Type 0
LoggedAsPlain =
    (s : Selection) (lent : List ℕ) (old0 old1 old2 : ℕ) → select_refusal s lent ≡ 0 →
    (plain_select_refusal s ≡ 0) × (28 ≤ length lent) × ((select_reply s lent).first ≡ plain_select_share 0 s old0)
    × ((select_reply s lent).second ≡ plain_select_share 1 s old1) × ((select_reply s lent).third ≡ plain_select_share 2 s old2)
