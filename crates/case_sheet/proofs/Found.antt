-- What the loop over the fields or lines in front keeps.
use mathlib.Core.Path.{◌≡◌, refl, sym, ap, ap₂, ◌∙◌}
use mathlib.Core.Bool.{Bool}
use mathlib.Core.List.{List, [], ◌∷◌, ◌++◌, append_assoc, append-nil}
use Prim.Native.Nat.{ℕ, zero, suc, ◌+◌, ◌-◌, ◌≤◌, ◌<◌}
use native.Mathlib.Numerals.{add-one}
use native.Mathlib.Omega.{arith}
use lib.ListN.{length, take, drop, get_or, set, take-append-drop, length-drop, length-set}
use Rattle.std.proofs.lemmas.List.{set-get_or}
use lib.Seq.{take_all, take-suc-set, drop-set-lt, drop-drop, length-take-le}
use Rattle.buffers.specs.Written.{in_front}
use Rattle.std.specs.Prelude.{Option, Some, None}
use Rattle.case_sheet.specs.declared.Edition.{Edition}
use Rattle.case_sheet.specs.Sheet.{item, size, before, leading}
use Rattle.case_sheet.proofs.Items.{item_found}

-- after i numbers, and what is left of the input
pub record Found (edition : Edition) (line : Bool) (input old new rest : List ℕ) (i : ℕ) : Type 0 where
  pub found : leading edition line (length old) input ≡ take i new ++ leading edition line (length old - i) rest
  pub behind : drop i new ≡ drop i old
  pub long : length new ≡ length old
  pub room : i ≤ length old

module _ (edition : Edition) (line : Bool) (input old : List ℕ) where
  module _ (new rest : List ℕ) (i : ℕ) (f : Found edition line input old new rest i) where
    -- one number more
    pub found_turns : {r : Option ℕ} (step value number : ℕ) → i < length old → step ≡ size edition line → r ≡ item edition line rest
        → r ≡ Some value → number ≡ value
        → Found edition line input old (set new i number) (take (length rest - step) (drop step rest)) (i + 1)
    unfolding leading before
    found_turns {r} step value number h s e q same =
        let one : item edition line rest ≡ Some number = sym e ∙ q ∙ ap Some (sym same) in
        let more : length old - i ≡ suc (length old - (i + 1)) = omega (arith, f.long) in
        let lent : take (length rest - step) (drop step rest) ≡ drop step rest
        = take_all (length rest - step) (drop step rest) (omega (arith, length-drop step rest)) in
        let onwards : leading edition line (length old - i) rest
        ≡ number ∷ leading edition line (length old - (i + 1)) (take (length rest - step) (drop step rest))
        = rw (lent, more, one, s) in
        let passed : take (i + 1) (set new i number) ≡ take i new ++ (number ∷ []) = rw add-one (take-suc-set new i number (omega (arith, f.long))) in
        let left : drop (i + 1) (set new i number) ≡ drop (i + 1) old
        = drop-set-lt (i + 1) new i number (omega arith) ∙ sym (drop-drop 1 i new) ∙ ap (drop 1) f.behind ∙ drop-drop 1 i old in
        record {
          found = f.found ∙ ap (λ l. take i new ++ l) onwards ∙ rw passed (simp append_assoc);
          behind = left;
          long = simp length-set f.long;
          room = omega (arith, f.long);
        }

    -- no number is left to be found
    module _ (none : leading edition line (length old - i) rest ≡ []) where
      all : leading edition line (length old) input ≡ take i new
      all = f.found ∙ rw none (append-nil (take i new))

      counted : i ≡ length (leading edition line (length old) input)
      counted = sym (ap length all ∙ length-take-le i new (omega (arith, f.room, f.long)))

      left : new ≡ in_front (leading edition line (length old) input) old
      unfolding in_front
      left = sym (take-append-drop i new) ∙ ap₂ (λ a b. a ++ b) (sym all) (f.behind ∙ ap (λ n. drop n old) counted)

    none_here : item edition line rest ≡ None → leading edition line (length old - i) rest ≡ []
    unfolding leading before
    none_here e = none_here_by_cases (length old - i)
      where
        none_here_by_cases : (k : ℕ) → leading edition line k rest ≡ []
        none_here_by_cases zero = refl
        none_here_by_cases (suc k) = rw e

    none_wanted : length old ≤ i → leading edition line (length old - i) rest ≡ []
    unfolding leading
    none_wanted h = let none : length old - i ≡ 0 = omega (arith, f.long) in rw none

    module _ {r : Option ℕ} (e : r ≡ item edition line rest) (q : r ≡ None) where
      pub stops_counted : i ≡ length (leading edition line (length old) input)
      stops_counted = counted (none_here (sym e ∙ q))

      -- what is lent of the numbers goes back as it was
      pub stops_left : set new i (get_or new i 0) ≡ in_front (leading edition line (length old) input) old
      stops_left = set-get_or new i 0 ∙ left (none_here (sym e ∙ q))

    -- the next position is in the input
    pub rest_within : {r : Option ℕ} (step value : ℕ) → step ≡ size edition line → r ≡ item edition line rest → r ≡ Some value
        → step ≤ length rest
    rest_within {r} step value s e q = omega (arith, (item_found edition line rest value (sym e ∙ q)).0)

    pub found_counted : length old ≤ i → length new ≡ length (leading edition line (length old) input)
    found_counted h = let end : length new ≡ i = omega (arith, f.room, f.long) in end ∙ counted (none_wanted h)

    pub found_left : length old ≤ i → new ≡ in_front (leading edition line (length old) input) old
    found_left h = left (none_wanted h)
