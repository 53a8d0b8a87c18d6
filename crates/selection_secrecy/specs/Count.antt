-- The count of a selection: over all choices of its masks, how many put two given values at two given positions, of the log as it is defined
-- (`log_of`) and of the one that the call leaves.
use Rattle.std.specs.Prelude.{List, [], ◌∷◌, ℕ, ◌*◌}
use Rattle.bits.specs.Xor.{◌⊕◌}
use Rattle.counting.specs.Choice.{over}
use Rattle.secrecy.specs.Count.{shows}
use Rattle.halves.specs.declared.Selection.{Selection}
use Rattle.selection.specs.Log.{log_of}
use Rattle.selection.specs.Select.{select_log}

-- a choice fixes z1, z2, c1, c2, t1, t2 and b, in this order
unfoldable pub selection_widths : (width : ℕ) → List ℕ
selection_widths l = 2 * l ∷ 2 * l ∷ 1 ∷ 1 ∷ l ∷ l ∷ 1 ∷ []

-- the selection of a word, a bit and a choice: z0 and c0 follow from them
unfoldable pub chosen_selection : (width word bit : ℕ) → (choice : ℕ → ℕ) → Selection
chosen_selection l z c r =
    record {
      width = l;
      z0 = z ⊕ r 0 ⊕ r 1;
      z1 = r 0;
      z2 = r 1;
      c0 = c ⊕ r 2 ⊕ r 3;
      c1 = r 2;
      c2 = r 3;
      t1 = r 4;
      t2 = r 5;
      b = r 6;
    }

unfoldable pub selection_count : (width word bit i j u v : ℕ) → ℕ
selection_count l z c i j u v = over (selection_widths l) (λ r. shows i j u v (log_of (chosen_selection l z c r)))

-- the same of the lent log, as the call leaves it for each choice
unfoldable pub select_count : (lent : List ℕ) → (width word bit i j u v : ℕ) → ℕ
select_count lent l z c i j u v = over (selection_widths l) (λ r. shows i j u v (select_log (chosen_selection l z c r) lent))
