-- Two entries of a selection's log tell nothing of its word and its bit: of the log as it is defined, and of what the call leaves. Each
-- statement is a type; the proofs stand in proofs/Promises.antt, Lent.antt and Worked.antt.
use Rattle.std.specs.Prelude.{◌≡◌, List, [], ◌∷◌, ℕ, ◌+◌, ◌*◌, ◌^◌, ◌≤◌, ◌<◌, length}
use Rattle.bits.specs.Xor.{◌⊕◌}
use Rattle.counting.specs.Choice.{over, Within}
use Rattle.table.specs.Balanced.{at}
use Rattle.halves.specs.declared.Selection.{Selection}
use Rattle.selection.specs.Log.{log_of}
use Rattle.selection.specs.Select.{select_refusal, select_log}
use Rattle.selection_secrecy.specs.Count.{selection_widths, chosen_selection, selection_count, select_count}

-- for every width, any two positions, the same one twice included, any two values, and any two pairs of word and bit: as many choices of all
-- masks of word and bit, t1, t2 and b put those values there for the one pair as for the other
unfoldable pub SelectionTellsNothing : Type 0
SelectionTellsNothing =
    (l z z' c c' i j u v : ℕ) → z < 2 ^ (2 * l) → z' < 2 ^ (2 * l) → c < 2 → c' < 2 →
    selection_count l z c i j u v ≡ selection_count l z' c' i j u v

-- the same of what the call leaves in the lent log, the same one for every choice, where the width is one of the call's; a log that is too
-- short stays as it was for every choice
unfoldable pub SelectTellsNothing : Type 0
SelectTellsNothing =
    (lent : List ℕ) (l z z' c c' i j u v : ℕ) → 1 ≤ l → l ≤ 8 → z < 2 ^ (2 * l) → z' < 2 ^ (2 * l) → c < 2 → c' < 2 → i < 28 → j < 28 →
    select_count lent l z c i j u v ≡ select_count lent l z' c' i j u v

-- where the log has room, these counts are those of the log as it is defined
unfoldable pub SelectCounted : Type 0
SelectCounted =
    (lent : List ℕ) (l z c i j u v : ℕ) → 1 ≤ l → l ≤ 8 → z < 2 ^ (2 * l) → c < 2 → i < 28 → j < 28 → 28 ≤ length lent →
    select_count lent l z c i j u v ≡ selection_count l z c i j u v

-- each entry that an accepted call leaves is the counted one
unfoldable pub LentLogCounted : Type 0
LentLogCounted =
    (lent : List ℕ) (s : Selection) (i : ℕ) → select_refusal s lent ≡ 0 → i < 28 → at (select_log s lent) i ≡ at (log_of s) i

-- how many choices there are: 2^(6l + 3)
unfoldable pub ChoicesCounted : Type 0
ChoicesCounted = (l : ℕ) → over (selection_widths l) (λ r. 1) ≡ 2 ^ (6 * l + 3)

-- every one of them is accepted; and of each selection that the call accepts word and bit are such as are counted, and it has its choice
unfoldable pub ChoicesAccepted : Type 0
ChoicesAccepted =
    (lent : List ℕ) (l z c : ℕ) (choice : ℕ → ℕ) → 1 ≤ l → l ≤ 8 → z < 2 ^ (2 * l) → c < 2 → Within (selection_widths l) choice →
    28 ≤ length lent → select_refusal (chosen_selection l z c choice) lent ≡ 0

unfoldable pub AcceptedChosen : Type 0
AcceptedChosen =
    (lent : List ℕ) (s : Selection) → select_refusal s lent ≡ 0 →
    (s.z0 ⊕ s.z1 ⊕ s.z2 < 2 ^ (2 * s.width)) × (s.c0 ⊕ s.c1 ⊕ s.c2 < 2) × (choice : ℕ → ℕ) × Within (selection_widths s.width) choice
    × (chosen_selection s.width (s.z0 ⊕ s.z1 ⊕ s.z2) (s.c0 ⊕ s.c1 ⊕ s.c2) choice ≡ s)

-- rows 13 and 27 of a selection of width 1, at positions 12 and 25: the counts of the four pairs of bits over 512 choices, for the word 0 and
-- the bit 0, and for the word 2 and the bit 1
abbrev pairs : (z c : ℕ) → List ℕ
pairs z c =
    selection_count 1 z c 12 25 0 0 ∷ selection_count 1 z c 12 25 0 1 ∷ selection_count 1 z c 12 25 1 0 ∷ selection_count 1 z c 12 25 1 1 ∷ []

unfoldable pub PairCounted : Type 0
PairCounted = (pairs 0 0 ≡ 192 ∷ 64 ∷ 64 ∷ 192 ∷ []) × (pairs 2 1 ≡ 192 ∷ 64 ∷ 64 ∷ 192 ∷ [])
