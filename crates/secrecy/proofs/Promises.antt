-- The third demand holds, and there are as many choices as docs/REFERENCE.md says.
use mathlib.Core.Path.{◌≡◌, ◌∙◌}
use mathlib.Core.List.{List}
use Prim.Native.Nat.{ℕ, ◌+◌, ◌*◌, ◌^◌, ◌<◌}
use native.Mathlib.Omega.{arith}
use lib.Pow.{pow-add}
use Rattle.counting.specs.Choice.{total}
use Rattle.counting.proofs.Over.{choices}
use Rattle.probing.proofs.Sound.{alike}
use Rattle.table.proofs.Fit.{fit_below}
use Rattle.table.proofs.Even.{fit_even}
use Rattle.lookup.specs.Methods.{found, method_of}
use Rattle.lookup.proofs.Methods.{of_each}
use Rattle.secrecy.specs.Count.{single, mask_widths}
use Rattle.secrecy.specs.Promises.{TellsNothing, EvenTellsNothing, ChoicesCounted}
use Rattle.secrecy.specs.Expressions.{system, alone, setting, secrets}
use Rattle.secrecy.proofs.Fine.{any_two}
use Rattle.secrecy.proofs.Observed.{known, Shows, counts_equal}
use Rattle.secrecy.proofs.Hiding.{Hiding, hiding, stands_alone}

-- a hidden method's log shows its expressions
rows_show : (table : List ℕ) (method n m x : ℕ) (h : Hiding (method_of method)) → x < 2 ^ n
    → Shows table n m method (h.rows (alone single)) x
unfolding mask_widths
rows_show table method n m x h small c inside =
    h.shown (alone single) method n m x table (setting n m table) (secrets table x) c
    (stands_alone (method_of method) n m x table c small (h.drawn n m c inside))

pub even_tells_nothing : EvenTellsNothing
unfolding EvenTellsNothing
even_tells_nothing table method n m x y i j u v even small is_Known hx hy =
    let h = of_each method hiding is_Known in
    let rows = h.rows (alone single) in
    let masks = (method_of method).mask_classes in
    counts_equal table n m method rows x y i j u v (rows_show table method n m x h hx) (rows_show table method n m y h hy)
    (alike (system masks) (setting n m table) (known table n m masks x y even small hx hy) _ _
    (any_two (2 ^ n) rows (system masks) h.fine i j))

pub tells_nothing : TellsNothing
unfolding TellsNothing EvenTellsNothing
tells_nothing table method n m x y i j u v fitness =
    even_tells_nothing table method n m x y i j u v (fit_even n m table fitness) (fit_below n m table fitness)

pub choices_counted : ChoicesCounted
unfolding ChoicesCounted mask_widths method_of found total
choices_counted n m =
    let two : total (mask_widths 2 n m) ≡ 3 * n + 2 * m = omega arith in
    let three : total (mask_widths 3 n m) ≡ 1 + (3 * n + 2 * m) = omega arith in
    let five : total (mask_widths 5 n m) ≡ 2 * n + 2 * m = omega arith in (
      choices (mask_widths 2 n m) ∙ rw two,
      choices (mask_widths 3 n m) ∙ rw three (pow-add 2 1 (3 * n + 2 * m)),
      choices (mask_widths 5 n m) ∙ rw five,
    )
