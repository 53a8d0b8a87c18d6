-- The table of a rule holds the rule's value at each place, and is the only list of its length that does.
use mathlib.Core.Path.{◌≡◌, refl, sym, ap, ◌∙◌}
use mathlib.Core.List.{List}
use Prim.Native.Nat.{ℕ, zero, suc, ◌<◌}
use native.Mathlib.Nat.{le_of_suc-le-suc, not-suc-le-zero}
use native.Mathlib.Omega.{arith}
use lib.ListN.{length}
use lib.Seq.{ext_get_or}
use Rattle.table.specs.Balanced.{at}
use Rattle.table.specs.Tabulate.{tabulate}

pub tabulate_at : (k : ℕ) (rule : ℕ → ℕ) (i : ℕ) → i < k → at (tabulate k rule) i ≡ rule i
unfolding at tabulate
tabulate_at zero rule i h = absurd (not-suc-le-zero h)
tabulate_at (suc k) rule zero h = refl
tabulate_at (suc k) rule (suc i) h = tabulate_at k (λ j. rule (suc j)) i (le_of_suc-le-suc h)

pub tabulate_long : (k : ℕ) (rule : ℕ → ℕ) → length (tabulate k rule) ≡ k
unfolding tabulate
tabulate_long zero rule = refl
tabulate_long (suc k) rule = ap suc (tabulate_long k (λ i. rule (suc i)))

pub tabulate_only : (k : ℕ) (rule : ℕ → ℕ) (list : List ℕ) → length list ≡ k → ((i : ℕ) → i < k → at list i ≡ rule i) → list ≡ tabulate k rule
unfolding at
tabulate_only k rule list long each =
    ext_get_or 0 list (tabulate k rule) (long ∙ sym (tabulate_long k rule))
    (λ i h.
    let below : i < k = omega (arith, long) in
    each i below ∙ sym (tabulate_at k rule i below))
