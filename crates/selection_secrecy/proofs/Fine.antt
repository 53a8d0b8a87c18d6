-- The leak test passes on every two rows of a selection's log.
use mathlib.Core.Bool.{not, ◌&&◌}
use mathlib.Core.List.{◌∷◌}
use Prim.Native.Nat.{ℕ}
use lib.Dec.{T}
use lib.ListN.{get_or}
use Rattle.probing.specs.Expression.{◌⊞◌, half}
use Rattle.probing.specs.Test.{fine, all_fine}
use Rattle.lookup.proofs.Each.{Each, each_first, each_rest, each_at}
use Rattle.secrecy.proofs.Fine.{each_pair}
use Rattle.selection_secrecy.specs.Expressions.{system, z0, z1, z2, c, c0, c1, c2, t1, rows, nothing}

rows_fine : T (all_fine system (nothing ∷ rows) (nothing ∷ rows))
unfolding all_fine
rows_fine = tt

-- at any two positions, past the end too
pub any_two : (i j : ℕ) → T (fine system (get_or rows i nothing) (get_or rows j nothing))
any_two i j =
    let all = each_pair system (nothing ∷ rows) (nothing ∷ rows) rows_fine in
    let beside = each_at {P = λ e. Each (λ f. T (fine system e f)) (nothing ∷ rows)} nothing i (each_first all) (each_rest all) in
    each_at {P = λ f. T (fine system (get_or rows i nothing) f)} nothing j (each_first beside) (each_rest beside)

-- what would leak, and is refused: a share without its mask beside its share of the word, one mask for both, and c1 ⊕ c2 beside c0
wrong_refused : T (not (fine system (half 2 c z0) z0) && not (fine system (half 2 c z1) z1) && not (fine system (half 2 c z2 ⊞ t1 ⊞ t1) z2)
    && not (fine system (c1 ⊞ c2) c0))
unfolding fine
wrong_refused = tt
