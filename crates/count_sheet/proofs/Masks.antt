-- The widths of the masks, their sum, and the masks that are taken from a choice's number.
use mathlib.Core.Path.{◌≡◌, refl, sym, ap, ◌∙◌}
use mathlib.Core.Bool.{true}
use mathlib.Core.List.{List, [], ◌∷◌, ◌++◌, map}
use Prim.Native.Nat.{ℕ, ◌+◌, ◌/◌, ◌%◌, ◌^◌, ◌≤◌, ◌<◌}
use native.Mathlib.Nat.{div-one}
use native.Mathlib.Numerals.{add-one}
use native.Mathlib.Omega.{arith}
use mir.Syntax.{w32}
use mir.Val.{Fits}
use lib.ListN.{length, get_or, take, set, length-set}
use lib.Pow.{shr-shr}
use lib.Seq.{take-suc, take-suc-set}
use Rattle.counting.specs.Choice.{width, total}
use Rattle.counting.specs.Numbered.{numbered, choice_of}
use Rattle.counting.proofs.Append.{total_append, total_front, width_most}
use Rattle.counting.proofs.Numbered.{numbered_append}
use Rattle.lookup.specs.declared.Case.{Case}
use Rattle.lookup.specs.Method.{Method, class_width}
use Rattle.lookup.specs.Method2.{method_2}
use Rattle.lookup.specs.Method3.{method_3}
use Rattle.lookup.specs.Method5.{method_5}
use Rattle.lookup.specs.Methods.{known, method_of, methods}
use Rattle.lookup.proofs.Each.{Each, none, more}
use Rattle.lookup.proofs.Methods.{of_each}
use Rattle.secrecy.specs.Count.{single, chosen_case, mask_widths}
use Rattle.count_sheet.specs.declared.ProbePair.{ProbePair}
use Rattle.count_sheet.specs.Runs.{numbered_case}

-- for widths up to 3 the masks of every method have at most 16 bits together
abbrev Few : Method → Type 0
Few method = (n m : ℕ) → n ≤ 3 → m ≤ 3 → total (map (class_width n m) method.mask_classes) ≤ 16

at_most_16 : (n m v w : ℕ) → n ≤ 3 → m ≤ 3 → v ≤ n → w ≤ 1 → total (n ∷ n ∷ v ∷ m ∷ m ∷ w ∷ []) ≤ 16
unfolding total
at_most_16 n m v w h l c b = omega arith

few : Each Few methods
few = more few_2 (more few_3 (more few_5 none))
  where
    few_2 : Few method_2
    few_2 n m h l = at_most_16 n m n 0 h l (omega arith) (omega arith)

    few_3 : Few method_3
    few_3 n m h l = at_most_16 n m n 1 h l (omega arith) (omega arith)

    few_5 : Few method_5
    few_5 n m h l = at_most_16 n m 0 0 h l (omega arith) (omega arith)

pub few_bits : (method n m : ℕ) → known method ≡ true → n ≤ 3 → m ≤ 3 → total (map (class_width n m) (method_of method).mask_classes) ≤ 16
few_bits method n m k = of_each method few k n m

-- the widths that `mask_widths` told, and the case of the masks that `masks` told
module _ (p : ProbePair) (widths : List ℕ) (told : widths ≡ map (class_width p.n p.m) (method_of p.method).mask_classes) where
  pub masks_room : known p.method ≡ true → p.n ≤ 3 → p.m ≤ 3 → total widths < 32
  masks_room k n m = rw told (omega (arith, few_bits p.method p.n p.m k n m))

  pub bits_room : (bits : ℕ) → known p.method ≡ true → p.n ≤ 3 → p.m ≤ 3 → bits ≡ total widths → bits < 32
  bits_room bits k n m e = rw e (masks_room k n m)

  pub case_numbered : (number : ℕ) (masks : List ℕ) (case : Case) → masks ≡ numbered widths number
      → case ≡ chosen_case single p.method p.n p.m p.secret (choice_of masks) → case ≡ numbered_case p number
  unfolding numbered_case mask_widths
  case_numbered number masks case e f = rw (f, e, told)

module _ (widths : List ℕ) where
  pub one_small : (i : ℕ) → total widths < 32 → get_or widths i 0 < 32
  unfolding width
  one_small i small = omega (arith, width_most widths i)

  next_width : (i : ℕ) → i < length widths → take (i + 1) widths ≡ take i widths ++ get_or widths i 0 ∷ []
  next_width i h = rw (add-one i) (take-suc widths i 0 h)

  next_total : (i : ℕ) → i < length widths → total (take (i + 1) widths) ≡ total (take i widths) + get_or widths i 0
  unfolding total
  next_total i h = ap total (next_width i h) ∙ total_append (take i widths) (get_or widths i 0 ∷ []) ∙ omega arith

  -- what the loop over the widths keeps
  pub record Summed (sum i : ℕ) : Type 0 where
    pub so_far : sum ≡ total (take i widths)
    pub six : length widths ≡ 6
    pub within : i ≤ 6

  pub summed_begins : length widths ≡ 6 → Summed 0 0
  unfolding total
  summed_begins six = record { so_far = refl; six = six; within = omega arith }

  pub summed_fits : (sum i : ℕ) → total widths < 32 → i < 6 → Summed sum i → Fits w32 (sum + get_or widths i 0)
  summed_fits sum i small h s =
      record { fits = omega (arith, s.so_far, next_total i (omega (arith, s.six)), total_front widths (i + 1)) }

  pub summed_turns : (sum i : ℕ) → i < 6 → Summed sum i → Summed (sum + get_or widths i 0) (i + 1)
  summed_turns sum i h s =
      record {
        so_far = ap (λ t. t + get_or widths i 0) s.so_far ∙ sym (next_total i (omega (arith, s.six)));
        six = s.six;
        within = omega arith;
      }

  -- what the loop keeps that takes the masks
  pub record Taking (number : ℕ) (masks : List ℕ) (left i : ℕ) : Type 0 where
    pub taken : take i masks ≡ numbered (take i widths) number
    pub rest : left ≡ number / 2 ^ total (take i widths)
    pub six : length widths ≡ 6
    pub long : length masks ≡ 6
    pub within : i ≤ 6

  module _ (number : ℕ) where
    pub taking_begins : (masks : List ℕ) → length widths ≡ 6 → length masks ≡ 6 → Taking number masks number 0
    unfolding numbered total
    taking_begins masks six long = record { taken = refl; rest = sym (div-one number); six = six; long = long; within = omega arith }

    pub taking_turns : (masks : List ℕ) (left i limit : ℕ) → i < 6 → limit ≡ 2 ^ get_or widths i 0 → Taking number masks left i
        → Taking number (set masks i (left % limit)) (left / limit) (i + 1)
    unfolding numbered
    taking_turns masks left i limit h e t =
        let w = get_or widths i 0 in
        let here : i < length widths = omega (arith, t.six) in
        let one : numbered (take (i + 1) widths) number ≡ numbered (take i widths) number ++ left % 2 ^ w ∷ []
        = ap (λ ws. numbered ws number) (next_width i here) ∙ numbered_append (take i widths) (w ∷ []) number ∙ rw t.rest in
        record {
          taken = rw (add-one i, take-suc-set masks i (left % limit) (omega (arith, t.long)), t.taken, e) (sym (rw (add-one i) at one));
          rest = rw (e, next_total i here, t.rest) (shr-shr number (total (take i widths)) w);
          six = t.six;
          long = simp length-set t.long;
          within = omega arith;
        }
