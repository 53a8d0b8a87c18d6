-- The rows of the methods show the values of their expressions, wherever the call's masks and secrets stand.
use mathlib.Core.Path.{◌≡◌, refl, sym, ap, ◌∙◌}
use mathlib.Core.Bool.{cond}
use mathlib.Core.List.{List, [], ◌∷◌, map}
use Prim.Native.Nat.{ℕ, zero, suc, ◌-◌, ◌%◌, ◌^◌, ◌≤◌, ◌<◌}
use native.Mathlib.Decide.{ℕ_discrete}
use native.Mathlib.Nat.{mod-eq_of_lt}
use native.Mathlib.Omega.{arith}
use borrow.Author.Tests.{eq-eqb, ne_eqb}
use lib.Dec.{eqb}
use Rattle.bits.specs.Xor.{◌⊕◌}
use Rattle.bits.proofs.Xor.{xors, below, zero_l, comm}
use Rattle.probing.specs.Expression.{Setting, value}
use Rattle.table.specs.Balanced.{at}
use Rattle.lookup.specs.declared.Case.{Case}
use Rattle.lookup.specs.Case.{Q}
use Rattle.lookup.specs.Row.{Row, masked}
use Rattle.lookup.specs.Method.{Method}
use Rattle.lookup.specs.Method2.{r_prime, pass_2, method_2}
use Rattle.lookup.specs.Method3.{place_3, compared, pass_3, method_3}
use Rattle.lookup.specs.Method5.{copied, first_pass_5, second_pass_5, method_5}
use Rattle.lookup.proofs.Second.{answer_2_is}
use Rattle.lookup.proofs.Third.{answer_3_is, compared_hit, compared_miss, place_below}
use Rattle.lookup.proofs.Fifth.{read_is, answer_5_is}
use Rattle.lookup.proofs.Layouts.{SameRows, no_pass, one_pass}
use Rattle.secrecy.specs.Count.{chosen_case}
use Rattle.secrecy.specs.Expressions.{CallPlaces, Shown, pass_shown_2, shown_2, pass_shown_3, shown_3, first_shown_5, second_shown_5, shown_5}

-- a bit's complement, as a sum
complement : (b : ℕ) → b < 2 → 1 - b ≡ b ⊕ 1
unfolding ◌⊕◌
complement zero h = refl
complement (suc zero) h = refl
complement (suc (suc b)) h = absurd (omega arith)

-- a call's masks and secrets among all masks and secrets
pub record Stands (s : CallPlaces) (method : Method) (n x : ℕ) (table : List ℕ) (setting : Setting) (secrets masks : ℕ → ℕ) : Type 0 where
  pub class : setting.width s.class ≡ n
  pub bit : setting.width 3 ≡ 1
  pub entries : (z : ℕ) → setting.tables s.table z ≡ at table z
  pub input : secrets s.x ≡ x
  pub output : secrets s.output ≡ at table x
  pub small : x < 2 ^ n
  pub r1 : masks s.masks.r1 < 2 ^ n
  pub r2 : masks s.masks.r2 < 2 ^ n
  pub r3 : masks s.masks.r3 < 2 ^ n
  pub b : masks s.masks.b ≤ method.b_most

-- what rows show of the case, and what expressions show of the masks
abbrev pub row_value : Case → (table : List ℕ) → (turn : ℕ) → Row → ℕ
row_value c table a r = r.value c table a

abbrev pub expression_value : Setting → (secrets masks : ℕ → ℕ) → (turn : ℕ) → Shown → ℕ
expression_value setting secrets masks a e = value setting secrets masks (e a)

module _ (s : CallPlaces) (number n m x : ℕ) (table : List ℕ) (setting : Setting) (secrets masks : ℕ → ℕ) where
  abbrev case : Case
  case = chosen_case s.masks number n m x masks

  module _ (method : Method) (k : Stands s method n x table setting secrets masks) where
    -- a turn's number is of the class
    turn_kept : {a : ℕ} → a < 2 ^ n → a % 2 ^ setting.width s.class ≡ a
    turn_kept h = rw k.class (mod-eq_of_lt h)

    -- the masked entry of the turn that answers
    answering : masked case table (masks s.masks.r1 ⊕ masks s.masks.r2)
        ≡ secrets s.output ⊕ masks s.masks.s1 ⊕ masks s.masks.s2
    unfolding masked chosen_case
    answering =
        let back : x ⊕ masks s.masks.r1 ⊕ masks s.masks.r2 ⊕ (masks s.masks.r1 ⊕ masks s.masks.r2) ≡ x = simp xors in
        rw (back, k.output)

  pass_same_2 : Stands s method_2 n x table setting secrets masks → (a : ℕ) → a < 2 ^ n
      → map (row_value case table a) pass_2 ≡ map (expression_value setting secrets masks a) (pass_shown_2 s)
  unfolding r_prime masked chosen_case value
  pass_same_2 k a h = rw (turn_kept method_2 k h, k.input) (simp k.entries)

  pub shows_2 : Stands s method_2 n x table setting secrets masks
      → SameRows (row_value case table) (expression_value setting secrets masks) (2 ^ n) method_2.layout (shown_2 s)
  unfolding r_prime masked chosen_case value Q
  shows_2 k =
      record {
        head = rw k.input;
        passes = one_pass (pass_same_2 k) no_pass;
        end = ap (λ v. masks s.masks.r3 ∷ v ∷ []) (answer_2_is case table k.r1 k.r2 k.r3 ∙ answering method_2 k);
      }

  module _ (k : Stands s method_3 n x table setting secrets masks) where
    hb : masks s.masks.b < 2
    hb = omega (arith, k.b)

    -- the comparison, as a sum
    compared_shown : (a : ℕ) → a < 2 ^ n
        → compared case a ≡ cond (eqb (place_3 case a) (masks s.masks.r3)) 0 1 ⊕ masks s.masks.b
    unfolding chosen_case Q
    compared_shown a h = turn (ℕ_discrete (place_3 case a) (masks s.masks.r3))
      where
        turn : Dec (place_3 case a ≡ masks s.masks.r3)
            → compared case a ≡ cond (eqb (place_3 case a) (masks s.masks.r3)) 0 1 ⊕ masks s.masks.b
        turn (yes e) = compared_hit case table a k.r3 e ∙ sym (rw (eq-eqb _ _ e) (zero_l (masks s.masks.b)))
        turn (no ne) =
            compared_miss case table a (place_below case table a h k.r1 k.r2 k.r3) ne
            ∙ complement (masks s.masks.b) hb
            ∙ sym (rw (ne_eqb _ _ ne) (comm 1 (masks s.masks.b)))

    pass_same_3 : (a : ℕ) → a < 2 ^ n
        → map (row_value case table a) pass_3 ≡ map (expression_value setting secrets masks a) (pass_shown_3 s)
    unfolding place_3 masked chosen_case value
    pass_same_3 a h = rw (compared_shown a h, turn_kept method_3 k h, k.input) (simp k.entries)

    pub shows_3 : SameRows (row_value case table) (expression_value setting secrets masks) (2 ^ n) method_3.layout (shown_3 s)
    unfolding place_3 masked chosen_case value Q
    shows_3 =
        record {
          head = rw (k.input, k.bit, complement (masks s.masks.b) hb);
          passes = one_pass pass_same_3 no_pass;
          end = ap (λ v. masks s.masks.b ∷ v ∷ []) (answer_3_is case table hb k.r1 k.r2 k.r3 ∙ answering method_3 k);
        }

  module _ (k : Stands s method_5 n x table setting secrets masks) where
    first_same_5 : (a : ℕ) → a < 2 ^ n
        → map (row_value case table a) first_pass_5 ≡ map (expression_value setting secrets masks a) (first_shown_5 s)
    unfolding copied chosen_case value
    first_same_5 a h = rw (turn_kept method_5 k h) (simp k.entries)

    second_same_5 : (a : ℕ) → a < 2 ^ n
        → map (row_value case table a) second_pass_5 ≡ map (expression_value setting secrets masks a) (second_shown_5 s)
    unfolding copied chosen_case value Q
    second_same_5 a h = rw (read_is case table a h k.r2, turn_kept method_5 k h) (simp k.entries)

    pub shows_5 : SameRows (row_value case table) (expression_value setting secrets masks) (2 ^ n) method_5.layout (shown_5 s)
    unfolding copied chosen_case value Q
    shows_5 =
        let x0 : x ⊕ masks s.masks.r1 ⊕ masks s.masks.r2 < 2 ^ n = below n (below n k.small k.r1) k.r2 in
        record {
          head = rw k.input;
          passes = one_pass first_same_5 (one_pass second_same_5 no_pass);
          end =
              rw k.input (ap (λ v. (x ⊕ masks s.masks.r1 ⊕ masks s.masks.r2) ∷ v ∷ [])
              (answer_5_is case table x0 k.r2 ∙ answering method_5 k));
        }
