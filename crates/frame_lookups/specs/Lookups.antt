-- A frame's lookups, and the random bytes that each takes.
use Rattle.std.specs.Prelude.{List, [], ◌∷◌, ℕ, ◌+◌, ◌*◌}
use Rattle.table.specs.Balanced.{at}
use Rattle.sbox.specs.Sbox.{sbox}
use Rattle.lookup.specs.declared.Case.{Case}
use Rattle.lookup.specs.Method2.{scratch_2, answer_2}
use Rattle.aes.specs.State.{Word, State, four, column}
use Rattle.frame_lookups.specs.Scratch.{cleared}
use Rattle.frame_lookups.specs.Shares.{Shares, share}

-- where the random bytes s1, s2 and r3 of a lookup begin: rounds are counted from 0, and each makes twenty lookups. Bytes 0 to 31 mask the
-- plaintext.
unfoldable pub position : (round lookup : ℕ) → ℕ
position i j = 32 + 3 * (20 * i + j)

-- a lookup by method 2, of eight bits to eight bits
unfoldable pub case_2 : (x0 r1 r2 s1 s2 r3 : ℕ) → Case
case_2 x0 r1 r2 s1 s2 r3 =
    record { method = 2; n = 8; m = 8; x0 = x0; r1 = r1; r2 = r2; s1 = s1; s2 = s2; r3 = r3; b = 0 }

-- the lookup whose random bytes begin at p; x0, r1 and r2 are a byte's three shares
unfoldable pub case_at : (random : List ℕ) → (p x0 r1 r2 : ℕ) → Case
case_at random p x0 r1 r2 = case_2 x0 r1 r2 (at random p) (at random (p + 1)) (at random (p + 2))

-- its answer in the S-box, and what it leaves in the scratch, which is cleared before it
unfoldable pub answered : (random : List ℕ) → (p x0 r1 r2 : ℕ) → ℕ
answered random p x0 r1 r2 = answer_2 (case_at random p x0 r1 r2) sbox

unfoldable pub filled : (random : List ℕ) → (p x0 r1 r2 : ℕ) → (scratch : List ℕ) → List ℕ
filled random p x0 r1 r2 scratch = scratch_2 256 (case_at random p x0 r1 r2) sbox (cleared scratch)

-- a word's four lookups, in byte order: the answers, and the lookups' masks s1; from p + 1 on, their s2
unfoldable pub word_answers : (random : List ℕ) → (p : ℕ) → (share1 share2 share3 : Word) → Word
word_answers random p u v w = four (λ r. answered random (p + 3 * r) (at u r) (at v r) (at w r))

unfoldable pub word_masks : (random : List ℕ) → (p : ℕ) → Word
word_masks random p = four (λ r. at random (p + 3 * r))

-- a state's sixteen lookups, column by column
unfoldable pub column_answers : (random : List ℕ) → (p : ℕ) → Shares → (c : ℕ) → Word
column_answers random p s c = word_answers random p (column (share s 0) c) (column (share s 1) c) (column (share s 2) c)

unfoldable pub state_answers : (random : List ℕ) → (p : ℕ) → Shares → State
state_answers random p s = four (λ c. column_answers random (p + 12 * c) s c)

unfoldable pub state_masks : (random : List ℕ) → (p : ℕ) → State
state_masks random p = four (λ c. word_masks random (p + 12 * c))

-- the new shares are the answers, and the lookups' own s1 and s2
unfoldable pub sub_shares : (random : List ℕ) → (p : ℕ) → Shares → Shares
sub_shares random p s = state_answers random p s ∷ state_masks random p ∷ state_masks random (p + 1) ∷ []
