-- Cases that compute: a selection worked by hand, whose word is 11 and whose bit is 0, and the order of the refusals: faults of it one by one at
-- their limits, and selections with several. Last stand the numbers that are handed back.
use Rattle.std.specs.Prelude.{◌≡◌, List, [], ◌∷◌, ℕ, replicate}
use Rattle.halves.specs.declared.Selection.{Selection}
use Rattle.halves.specs.Halves.{share}
use Rattle.selection.specs.Log.{half_values}
use Rattle.selection.specs.Select.{selection_from, plain_select_refusal, select_refusal}

abbrev worked : (c0 : ℕ) → Selection
worked c0 = selection_from 2 6 12 1 c0 0 1 1 2 1

abbrev shares : Selection → List ℕ
shares s = share 0 s ∷ share 1 s ∷ share 2 s ∷ []

-- the halves 2 and 3 of the word 11
unfoldable pub SelectionWorked : Type 0
SelectionWorked =
    (shares (worked 1) ≡ 0 ∷ 1 ∷ 3 ∷ []) × (shares (worked 0) ≡ 3 ∷ 2 ∷ 2 ∷ [])
    × (half_values (worked 1) 1 ≡ 2 ∷ 3 ∷ 0 ∷ 2 ∷ 1 ∷ 0 ∷ 2 ∷ []) × (half_values (worked 1) 0 ≡ 1 ∷ 0 ∷ 3 ∷ 1 ∷ 0 ∷ 1 ∷ 3 ∷ [])

abbrev refused : (log : ℕ) → Selection → ℕ
refused log s = select_refusal s (replicate log 0)

unfoldable pub OrderWorked : Type 0
OrderWorked =
    refused 28 (worked 1)
    -- the width, of a selection of zeros
    ∷ refused 28 (selection_from 0 0 0 0 0 0 0 0 0 0) ∷ refused 28 (selection_from 1 0 0 0 0 0 0 0 0 0)
    ∷ refused 28 (selection_from 8 0 0 0 0 0 0 0 0 0) ∷ refused 28 (selection_from 9 0 0 0 0 0 0 0 0 0)
    -- the largest of every number, and each one too large
    ∷ refused 28 (selection_from 2 15 15 15 1 1 1 3 3 1)
    ∷ refused 28 (selection_from 2 16 12 1 1 0 1 1 2 1) ∷ refused 28 (selection_from 2 6 16 1 1 0 1 1 2 1)
    ∷ refused 28 (selection_from 2 6 12 16 1 0 1 1 2 1) ∷ refused 28 (selection_from 2 6 12 1 2 0 1 1 2 1)
    ∷ refused 28 (selection_from 2 6 12 1 1 2 1 1 2 1) ∷ refused 28 (selection_from 2 6 12 1 1 0 2 1 2 1)
    ∷ refused 28 (selection_from 2 6 12 1 1 0 1 4 2 1) ∷ refused 28 (selection_from 2 6 12 1 1 0 1 1 4 1)
    ∷ refused 28 (selection_from 2 6 12 1 1 0 1 1 2 2)
    -- a log of 27; 20 and 21; 20 and 14; 21 and 14; and without a log 21, and none
    ∷ refused 27 (worked 1) ∷ refused 28 (selection_from 9 6 12 1 2 0 1 1 2 1) ∷ refused 0 (selection_from 0 0 0 0 0 0 0 0 0 0)
    ∷ refused 0 (worked 2) ∷ plain_select_refusal (worked 2) ∷ plain_select_refusal (worked 1)
    -- 20 and 21 by a word, and by a mask; 21 by a word and 14, by a mask and 14
    ∷ refused 28 (selection_from 0 1 0 0 0 0 0 0 0 0) ∷ refused 28 (selection_from 0 0 0 0 0 0 0 1 0 0)
    ∷ refused 27 (selection_from 2 16 12 1 1 0 1 1 2 1) ∷ refused 27 (selection_from 2 6 12 1 1 0 1 4 2 1) ∷ []
    ≡ 0 ∷ 20 ∷ 0 ∷ 0 ∷ 20 ∷ 0 ∷ 21 ∷ 21 ∷ 21 ∷ 21 ∷ 21 ∷ 21 ∷ 21 ∷ 21 ∷ 21 ∷ 14 ∷ 20 ∷ 20 ∷ 21 ∷ 21 ∷ 0 ∷ 20 ∷ 20 ∷ 21 ∷ 21 ∷ []
