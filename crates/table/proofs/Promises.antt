-- What is promised of fit tables holds.
use mathlib.Core.Path.{◌≡◌}
use mathlib.Core.Bool.{true}
use mathlib.Core.List.{List}
use Prim.Native.Nat.{ℕ, ◌^◌}
use native.Mathlib.Nat.{le_trans}
use borrow.Author.Tests.{leb-true, le-leb}
use Rattle.bits.specs.Xor.{◌⊕◌}
use Rattle.table.specs.Balanced.{count_of}
use Rattle.table.specs.Fit.{occurs, fit}
use Rattle.table.specs.Promises.{IsFit, FitRight, BalancedFit, BalancedAccepted, FullBalanced}
use Rattle.table.specs.Promises.{FitEven, EvenFit, AcceptedFit}
use Rattle.table.proofs.Balanced.{none_from}
use Rattle.table.proofs.Fit.{In, fit_made, fit_long, fit_below, fit_equal, fit_closed}
use Rattle.table.proofs.Even as even
use Rattle.table.proofs.Full as full
use Rattle.table.proofs.Refusals.{table_accepted, table_not_refused}

seen : (v : ℕ) (xs : List ℕ) → occurs v xs ≡ true → In v xs
unfolding occurs
seen v xs e = record { occurs = leb-true 1 (count_of v xs) e }

shown : (v : ℕ) (xs : List ℕ) → In v xs → occurs v xs ≡ true
unfolding occurs
shown v xs h = le-leb 1 (count_of v xs) h.occurs

pub fit_right : FitRight
unfolding FitRight
fit_right n m xs = (to, from)
  where
    to : fit n m xs ≡ true → IsFit n m xs
    to h =
        record {
          long = fit_long n m xs h;
          small = fit_below n m xs h;
          equal = λ u v k l. fit_equal n m xs h u v (seen u xs k) (seen v xs l);
          closed = λ u v w k l o. shown (u ⊕ v ⊕ w) xs (fit_closed n m xs h u v w (seen u xs k) (seen v xs l) (seen w xs o));
        }

    from : IsFit n m xs → fit n m xs ≡ true
    from f =
        fit_made n m xs f.long (none_from (2 ^ m) xs f.small) (λ u v k l. f.equal u v (shown u xs k) (shown v xs l))
        (λ u v w k l o. seen (u ⊕ v ⊕ w) xs (f.closed u v w (shown u xs k) (shown v xs l) (shown w xs o)))

pub balanced_fit : BalancedFit
unfolding BalancedFit
balanced_fit = full.balanced_fit

pub balanced_accepted : BalancedAccepted
unfolding BalancedAccepted
balanced_accepted n m xs l h k b =
    let narrow = full.balanced_narrow n m xs b in
    let fitness = full.balanced_fit n m xs b in (
      narrow,
      table_not_refused n m xs (record {
        input_least = l;
        input_most = h;
        output_least = k;
        output_most = le_trans narrow h;
        long = fit_long n m xs fitness;
        small = fit_below n m xs fitness;
        fitness = fitness;
      }),
    )

pub full_balanced : FullBalanced
unfolding FullBalanced
full_balanced n m xs h all = full.full_balanced n m xs h (λ v l. seen v xs (all v l))

pub fit_even : FitEven
unfolding FitEven
fit_even = even.fit_even

pub even_fit : EvenFit
unfolding EvenFit
even_fit = even.even_fit

pub accepted_fit : AcceptedFit
unfolding AcceptedFit
accepted_fit n m xs = (
  λ e.
      let t = table_accepted n m xs e in
      (t.input_least, t.input_most, t.output_least, t.output_most, t.fitness),
  λ w. table_not_refused n m xs (record {
    input_least = w.0;
    input_most = w.1;
    output_least = w.2;
    output_most = w.3;
    long = fit_long n m xs w.4;
    small = fit_below n m xs w.4;
    fitness = w.4;
  }),
)
