-- The leak test passes on every two rows of both calls, at any turns, in every pairing of the methods; where it does, every two lines of the two
-- logs pass it.
use mathlib.Core.Path.{◌≡◌, refl}
use mathlib.Core.List.{List, ◌++◌, map}
use Prim.Native.Nat.{ℕ}
use lib.Dec.{T}
use lib.ListN.{drop}
use Rattle.probing.specs.Expression.{Expression, System}
use Rattle.probing.specs.Test.{fine, all_fine}
use Rattle.lookup.specs.Layout.{Layout}
use Rattle.lookup.specs.Method.{Method, class_width}
use Rattle.lookup.specs.Methods.{methods}
use Rattle.lookup.proofs.Each.{Each, none, more, each_split, each_all, each_map}
use Rattle.secrecy.specs.Expressions.{Shown}
use Rattle.secrecy.proofs.Fine.{rows_at, each_pair, line, everywhere}
use Rattle.secrecy.proofs.Hiding.{Hiding, hiding_2, hiding_3, hiding_5}
use Rattle.chain_secrecy.specs.Count.{Boxes, Which, first, second}
use Rattle.chain_secrecy.specs.Expressions.{chain_width, chain_system, places}

-- all rows of both calls, the first's at turn a and the second's at turn b
abbrev pub both_at : (rows : Which → Layout Shown) → (a b : ℕ) → List Expression
both_at rows a b = rows_at (rows first) a ++ rows_at (rows second) b

module _ (turns : Which → ℕ) (rows : Which → Layout Shown) where
  -- what holds of both calls' rows at all turns holds at every position of each
  throughout : {P : Expression → Type 0} → ((a b : ℕ) → Each P (both_at rows a b)) → (w : Which) (i : ℕ) → P (line (turns w) (rows w) i)
  throughout h first i = everywhere (turns first) (rows first) (λ a. (each_split (rows_at (rows first) a) (h a 0)).0) i
  throughout h second i = everywhere (turns second) (rows second) (λ b. (each_split (rows_at (rows first) 0) (h 0 b)).1) i

  pub any_two : (s : System) → ((a b a' b' : ℕ) → T (all_fine s (both_at rows a b) (both_at rows a' b'))) → (w w' : Which) (i j : ℕ)
      → T (fine s (line (turns w) (rows w) i) (line (turns w') (rows w') j))
  any_two s t w w' i j =
      throughout
      (λ a b. each_map (λ e h. throughout h w' j)
      (each_all (both_at rows a b) (λ a'. each_all (both_at rows a b) (λ b'. each_pair s _ (both_at rows a' b') (t a b a' b')))))
      w i

-- the rows of two hidden methods, each in its place
abbrev pub paired_rows : {f g : Method} → Hiding f → Hiding g → Which → Layout Shown
paired_rows one two first = one.rows (places first)
paired_rows one two second = two.rows (places second)

-- what is proved of a pairing: its masks have their widths, and its rows pass the leak test
pub record Pairing (f g : Method) : Type 0 where
  pub one : Hiding f
  pub two : Hiding g
  pub widths : (k : Boxes) → map (chain_width k) (chain_system f g).masks
      ≡ map (class_width k.input k.between) f.mask_classes ++ drop 2 (map (class_width k.between k.output) g.mask_classes)
  pub fine : (a b a' b' : ℕ)
      → T (all_fine (chain_system f g) (both_at (paired_rows one two) a b) (both_at (paired_rows one two) a' b'))

-- the leak test, run on all pairs of rows of both calls at four variable turns, in all pairings
pub pairings : Each (λ f. Each (Pairing f) methods) methods
unfolding all_fine
pairings =
    more
    (more (record { one = hiding_2; two = hiding_2; widths = λ k. refl; fine = λ a b a' b'. tt })
    (more (record { one = hiding_2; two = hiding_3; widths = λ k. refl; fine = λ a b a' b'. tt })
    (more (record { one = hiding_2; two = hiding_5; widths = λ k. refl; fine = λ a b a' b'. tt }) none)))
    (more
    (more (record { one = hiding_3; two = hiding_2; widths = λ k. refl; fine = λ a b a' b'. tt })
    (more (record { one = hiding_3; two = hiding_3; widths = λ k. refl; fine = λ a b a' b'. tt })
    (more (record { one = hiding_3; two = hiding_5; widths = λ k. refl; fine = λ a b a' b'. tt }) none)))
    (more
    (more (record { one = hiding_5; two = hiding_2; widths = λ k. refl; fine = λ a b a' b'. tt })
    (more (record { one = hiding_5; two = hiding_3; widths = λ k. refl; fine = λ a b a' b'. tt })
    (more (record { one = hiding_5; two = hiding_5; widths = λ k. refl; fine = λ a b a' b'. tt }) none)))
    none))
