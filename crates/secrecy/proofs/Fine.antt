-- The leak test passes on every two rows of each method, at any two turns; where it does, every two lines of a log pass it.
use mathlib.Core.Bool.{Bool}
use mathlib.Core.List.{List, [], ◌∷◌, ◌++◌, map}
use Prim.Native.Nat.{ℕ}
use mir.Facts.{and_yes}
use lib.Dec.{T}
use lib.ListN.{get_or}
use Rattle.probing.specs.Expression.{Expression, System}
use Rattle.probing.specs.Search.{every}
use Rattle.probing.specs.Test.{fine, all_fine}
use Rattle.lookup.specs.Layout.{Layout, lines, all_rows}
use Rattle.lookup.specs.Method2.{method_2}
use Rattle.lookup.specs.Method3.{method_3}
use Rattle.lookup.specs.Method5.{method_5}
use Rattle.lookup.proofs.Each.{Each, none, more, each_first, each_rest, each_split, each_all, each_map, each_at, each_source}
use Rattle.lookup.proofs.Layouts.{each_line}
use Rattle.secrecy.specs.Count.{single}
use Rattle.secrecy.specs.Expressions.{Shown, nothing, shown_2, shown_3, shown_5, system, alone}

abbrev pub at_turn : (turn : ℕ) → Shown → Expression
at_turn a e = e a

-- all rows at turn a, behind what lies past the end
abbrev pub rows_at : Layout Shown → (turn : ℕ) → List Expression
rows_at l a = nothing ∷ map (at_turn a) (l.head ++ all_rows l.passes ++ l.end)

-- a test that every element passes, element by element
each_passed : (test : Expression → Bool) (es : List Expression) → T (every test es) → Each (λ e. T (test e)) es
unfolding every
each_passed test [] t = none
each_passed test (e ∷ es) t =
    let both = and_yes (test e) (every test es) t in
    more both.0 (each_passed test es both.1)

pub each_pair : (s : System) (es fs : List Expression) → T (all_fine s es fs) → Each (λ e. Each (λ f. T (fine s e f)) fs) es
unfolding all_fine
each_pair s es fs t = each_map (λ e. each_passed (fine s e) fs) (each_passed _ es t)

module _ (turns : ℕ) (l : Layout Shown) where
  -- the line at a position
  abbrev pub line : (position : ℕ) → Expression
  line i = get_or (lines at_turn turns l) i nothing

  -- what holds of the rows at every turn holds at every position
  pub everywhere : {P : Expression → Type 0} → ((a : ℕ) → Each P (rows_at l a)) → (i : ℕ) → P (line i)
  everywhere {P} h i =
      let all : (a : ℕ) → Each (λ r. P (at_turn a r)) (l.head ++ all_rows l.passes ++ l.end)
      = λ a. each_source (at_turn a) _ (each_rest (h a)) in
      let front : (a : ℕ) → Each (λ r. P (at_turn a r)) (l.head ++ all_rows l.passes)
      = λ a. (each_split (l.head ++ all_rows l.passes) (all a)).0 in
      each_at {P = P} nothing i (each_first (h 0))
      (each_line at_turn turns l (each_split l.head (front 0)).0 (λ a _. (each_split l.head (front a)).1)
      (each_split (l.head ++ all_rows l.passes) (all 0)).1)

  pub any_two : (s : System) → ((a a' : ℕ) → T (all_fine s (rows_at l a) (rows_at l a'))) → (i j : ℕ) → T (fine s (line i) (line j))
  any_two s t i j =
      everywhere (λ a. each_map (λ e h. everywhere h j) (each_all (rows_at l a) (λ a'. each_pair s _ (rows_at l a') (t a a')))) i

-- the leak test, run on all pairs of rows at two variable turns
pub fine_2 : (a a' : ℕ) → T (all_fine (system method_2.mask_classes) (rows_at (shown_2 (alone single)) a) (rows_at (shown_2 (alone single)) a'))
unfolding all_fine
fine_2 a a' = tt

pub fine_3 : (a a' : ℕ) → T (all_fine (system method_3.mask_classes) (rows_at (shown_3 (alone single)) a) (rows_at (shown_3 (alone single)) a'))
unfolding all_fine
fine_3 a a' = tt

pub fine_5 : (a a' : ℕ) → T (all_fine (system method_5.mask_classes) (rows_at (shown_5 (alone single)) a) (rows_at (shown_5 (alone single)) a'))
unfolding all_fine
fine_5 a a' = tt
