-- A table that is not fit tells something, under each method: a twice masked entry beside the answer.
use mathlib.Core.Path.{◌≡◌, refl, sym, ap, ◌∙◌}
use mathlib.Core.Bool.{true, false, true≢false}
use mathlib.Core.List.{List, [], ◌∷◌, ◌++◌, map}
use Prim.Native.Nat.{ℕ, ◌+◌, ◌*◌, ◌-◌, ◌/◌, ◌^◌, ◌≤◌, ◌<◌}
use native.Mathlib.Nat.{lt_of_lt_of_le, mul-pos, mul-div_cancel, mul-div_cancel_left}
use native.Mathlib.Omega.{arith}
use lib.Dec.{lit<}
use lib.ListN.{length}
use lib.Pow.{pow_pos, pow_mono, suc_ones}
use Rattle.bits.specs.Xor.{◌⊕◌}
use Rattle.bits.proofs.Xor.{below, zero_r, xors}
use Rattle.counting.specs.Choice.{width, Within}
use Rattle.counting.proofs.Over.{over_ext}
use Rattle.refusals.specs.Tests.{any_from}
use Rattle.table.specs.Balanced.{at, count_of}
use Rattle.table.specs.Fit.{fit}
use Rattle.table.specs.Refusals.{table_refusal}
use Rattle.table.proofs.Fit.{In, place_of}
use Rattle.table.proofs.Balanced.{at_below}
use Rattle.table.proofs.Refusals.{table_unfit}
use Rattle.table.proofs.Periods.{Period, periods_fit}
use Rattle.lookup.specs.declared.Case.{Case}
use Rattle.lookup.specs.Case.{Q}
use Rattle.lookup.specs.Entry.{value_of}
use Rattle.lookup.specs.Layout.{all_rows}
use Rattle.lookup.specs.Row.{Row, masked}
use Rattle.lookup.specs.Method2.{head_2, pass_2, end_2}
use Rattle.lookup.specs.Method3.{head_3, pass_3, end_3}
use Rattle.lookup.specs.Method5.{copied, first_half, head_5, first_pass_5, second_pass_5, end_5}
use Rattle.lookup.specs.Method.{class_width}
use Rattle.lookup.specs.Methods.{among, found, known, method_of}
use Rattle.lookup.specs.Call.{log_of}
use Rattle.lookup.proofs.Entry.{value_kept, byte_fits}
use Rattle.lookup.proofs.Layouts.{at_first_turn, at_end}
use Rattle.lookup.proofs.Fifth.{copied_is}
use Rattle.lookup.proofs.Methods.{of_each}
use Rattle.lookup.proofs.Right.{right}
use Rattle.secrecy.specs.Count.{single, chosen_case, mask_widths, value_at, shows, count}
use Rattle.secrecy.specs.Promises.{AlikeAt, UnfitTells}
use Rattle.secrecy.proofs.Observed.{value_of_row}
use Rattle.secrecy.proofs.Hiding.{Drawn, hiding}
use Rattle.secrecy.proofs.Shown.{row_value}
use Rattle.secrecy.proofs.Telling.{both, shown_both, counted_both}

-- the value at a position of a pass's first turn, and at one of the end
module _ (c : Case) (table : List ℕ) (head : List Row) (before : List (List Row)) (pass : List Row) (behind : List (List Row)) (end : List Row)
    (laid_out : (method_of c.method).layout ≡ record { head = head; passes = before ++ pass ∷ behind; end = end }) (i : ℕ) where
  first_value : i < length pass
      → value_at (log_of c table) (length head + length (all_rows before) * 2 ^ c.n + i) ≡ value_of (at (map (row_value c table 0) pass) i)
  unfolding value_at log_of Q
  first_value h =
      value_of_row c table (2 ^ c.n) (method_of c.method).layout _
      ∙ rw (laid_out, ← (suc_ones c.n))
      (ap value_of (at_first_turn (row_value c table) (2 ^ c.n - 1) head before pass behind end i h))

  end_value : value_at (log_of c table) (length head + length (all_rows (before ++ pass ∷ behind)) * 2 ^ c.n + i)
      ≡ value_of (at (map (row_value c table 0) end) i)
  unfolding value_at log_of Q
  end_value =
      value_of_row c table (2 ^ c.n) (method_of c.method).layout _
      ∙ rw laid_out (ap value_of (at_end (row_value c table) (2 ^ c.n) (record { head = head; passes = before ++ pass ∷ behind; end = end }) i))

-- The two values of a method that shows the table's entry at base ⊕ r1 ⊕ r2, under both output masks, at position p, and its answer at q
module _ (number n m v w p q : ℕ) (base : ℕ → ℕ) (table : List ℕ) (widths : mask_widths number n m ≡ n ∷ n ∷ v ∷ m ∷ m ∷ w ∷ [])
    (based : (x : ℕ) → x < 2 ^ n → base x < 2 ^ n)
    (small : (z : ℕ) → at table z < 2 ^ m) (long : length table ≡ 2 ^ n) (narrow : m ≤ 8) where
  abbrev case : (x : ℕ) → (ℕ → ℕ) → Case
  case x c = chosen_case single number n m x c

  module _ (masked_at : (x : ℕ) (c : ℕ → ℕ) → Within (mask_widths number n m) c
      → value_at (log_of (case x c) table) p ≡ value_of (at table (base x ⊕ c 0 ⊕ c 1) ⊕ c 3 ⊕ c 4))
      (answer_at : (x : ℕ) (c : ℕ → ℕ) → x < 2 ^ n → Within (mask_widths number n m) c
      → value_at (log_of (case x c) table) q ≡ value_of (masked (case x c) table (c 0 ⊕ c 1))) where
    byte : (z s s' : ℕ) → s < 2 ^ m → s' < 2 ^ m → value_of (at table z ⊕ s ⊕ s') ≡ at table z ⊕ s ⊕ s'
    byte z s s' h k = value_kept (byte_fits (lt_of_lt_of_le (below m (below m (small z) h) k) (pow_mono narrow)))

    counted : (x u : ℕ) → x < 2 ^ n
        → count table number n m x p q u 0 ≡ 2 ^ n * (count_of (u ⊕ at table x) table * (2 ^ v * (2 ^ m * 2 ^ w)))
    unfolding count shows chosen_case masked shown_both both width
    counted x u hx =
        over_ext (mask_widths number n m) {g = λ c. shown_both n m v w (base x) x u table (base x ⊕ c 0 ⊕ c 1) (c 3) (c 4)}
        (λ c k.
        let s1 : c 3 < 2 ^ m = rw widths at (k.each 3) in
        let s2 : c 4 < 2 ^ m = rw widths at (k.each 4) in
        let back : x ⊕ c 0 ⊕ c 1 ⊕ (c 0 ⊕ c 1) ≡ x = simp xors in
        rw (masked_at x c k, answer_at x c hx k, back, byte (base x ⊕ c 0 ⊕ c 1) (c 3) (c 4) s1 s2, byte x (c 3) (c 4) s1 s2))
        ∙ rw widths (counted_both n m v w (base x) x u table small (based x hx) long)

    -- so where they count equally for any two inputs, each difference of two entries is a period
    silent_fit : any_from (2 ^ m) table ≡ false
        → ((x y u v : ℕ) → x < 2 ^ n → y < 2 ^ n → count table number n m x p q u v ≡ count table number n m y p q u v) → fit n m table ≡ true
    silent_fit none same = periods_fit n m table long none periods
      where
        equal : (a b : ℕ) → 2 ^ n * (a * (2 ^ v * (2 ^ m * 2 ^ w))) ≡ 2 ^ n * (b * (2 ^ v * (2 ^ m * 2 ^ w))) → a ≡ b
        equal a b e =
            let some : 0 < 2 ^ v * (2 ^ m * 2 ^ w) = mul-pos (pow_pos v) (mul-pos (pow_pos m) (pow_pos w)) in
            let inner : a * (2 ^ v * (2 ^ m * 2 ^ w)) ≡ b * (2 ^ v * (2 ^ m * 2 ^ w))
            = sym (mul-div_cancel_left _ (pow_pos n)) ∙ ap (λ k. k / 2 ^ n) e ∙ mul-div_cancel_left _ (pow_pos n) in
            sym (mul-div_cancel a some) ∙ ap (λ k. k / (2 ^ v * (2 ^ m * 2 ^ w))) inner ∙ mul-div_cancel b some

        placed : (i j : ℕ) → i < 2 ^ n → j < 2 ^ n → Period table (at table i ⊕ at table j)
        placed i j hi hj = record {
          same = λ y.
              let moved : y ⊕ at table j ⊕ at table i ≡ y ⊕ (at table i ⊕ at table j) = simp xors in
              let kept : y ⊕ at table j ⊕ at table j ≡ y = simp xors in
              ap (λ k. count_of k table) (sym moved)
              ∙ equal _ _ (sym (counted i (y ⊕ at table j) hi) ∙ same i j (y ⊕ at table j) 0 hi hj ∙ counted j (y ⊕ at table j) hj)
              ∙ ap (λ k. count_of k table) kept;
        }

        periods : (a b : ℕ) → In a table → In b table → Period table (a ⊕ b)
        periods a b k l =
            let i = place_of table a k in
            let j = place_of table b l in
            rw (← i.2, ← j.2) (placed i.0 j.0 (rw long at i.1) (rw long at j.1))

-- a method that shows such an entry in row i of a pass, and whose answer is the end's second row
module _ (number i third bit : ℕ) (base : ℕ → ℕ) (head : List Row) (before : List (List Row)) (pass : List Row) (behind : List (List Row))
    (end : List Row)
    (laid_out : (method_of number).layout ≡ record { head = head; passes = before ++ pass ∷ behind; end = end }) (inside : i < length pass)
    (based : (n x : ℕ) → x < 2 ^ n → base x < 2 ^ n)
    (masked_row : (n m x : ℕ) (c : ℕ → ℕ) (table : List ℕ) → c 1 < 2 ^ n
    → at (map (row_value (chosen_case single number n m x c) table 0) pass) i ≡ at table (base x ⊕ c 0 ⊕ c 1) ⊕ c 3 ⊕ c 4)
    (answer_row : (c : Case) (table : List ℕ) → at (map (row_value c table 0) end) 1 ≡ (method_of number).answer c table)
    (widths : (n m : ℕ) → mask_widths number n m ≡ n ∷ n ∷ class_width n m third ∷ m ∷ m ∷ class_width n m bit ∷ [])
    (known_method : known number ≡ true) where
  abbrev masked_position : (n : ℕ) → ℕ
  masked_position n = length head + length (all_rows before) * 2 ^ n + i

  abbrev answer_position : (n : ℕ) → ℕ
  answer_position n = length head + length (all_rows (before ++ pass ∷ behind)) * 2 ^ n + 1

  module _ (table : List ℕ) (n m x : ℕ) (c : ℕ → ℕ) where
    drawn : Within (mask_widths number n m) c → Drawn (method_of number) n m c
    unfolding mask_widths
    drawn k = (of_each number hiding known_method).drawn n m c k

    masked_at : Within (mask_widths number n m) c
        → value_at (log_of (chosen_case single number n m x c) table) (masked_position n)
        ≡ value_of (at table (base x ⊕ c 0 ⊕ c 1) ⊕ c 3 ⊕ c 4)
    unfolding chosen_case
    masked_at k =
        first_value (chosen_case single number n m x c) table head before pass behind end laid_out i inside
        ∙ ap value_of (masked_row n m x c table (drawn k).r2)

    answer_at : x < 2 ^ n → Within (mask_widths number n m) c
        → value_at (log_of (chosen_case single number n m x c) table) (answer_position n)
        ≡ value_of (masked (chosen_case single number n m x c) table (c 0 ⊕ c 1))
    unfolding chosen_case Q
    answer_at hx k =
        let d = drawn k in
        end_value (chosen_case single number n m x c) table head before pass behind end laid_out 1
        ∙ ap value_of
        (answer_row _ table
        ∙ (of_each number right known_method).answers (chosen_case single number n m x c) table (below n (below n hx d.r1) d.r2) d.r1
        d.r2 d.r3 d.b)

  unfit_told : (table : List ℕ) (n m : ℕ) → table_refusal n m table ≡ 7 → AlikeAt table number n m (masked_position n) (answer_position n) → ⊥
  unfit_told table n m refused same =
      let t = table_unfit n m table refused in
      let small = at_below (2 ^ m) table (pow_pos m) t.2 in
      true≢false
      (sym
      (silent_fit number n m (class_width n m third) (class_width n m bit) (masked_position n) (answer_position n) base table (widths n m)
      (based n) small t.1 t.0 (masked_at table n m) (answer_at table n m) t.2 same)
      ∙ t.3)

-- methods 2 and 3 show it of turn 0, at x0, method 5 in the second pass's turn 0, at r1 ⊕ r2
module _ (number n m x : ℕ) (c : ℕ → ℕ) (table : List ℕ) where
  abbrev chosen : Case
  chosen = chosen_case single number n m x c

  masked_first : masked chosen table 0 ≡ at table (x ⊕ c 0 ⊕ c 1) ⊕ c 3 ⊕ c 4
  unfolding masked chosen_case
  masked_first = rw (zero_r (x ⊕ c 0 ⊕ c 1))

  copied_first : c 1 < 2 ^ n → copied (c 1) (c 4) (first_half chosen table) 0 ≡ at table (0 ⊕ c 0 ⊕ c 1) ⊕ c 3 ⊕ c 4
  unfolding chosen_case Q
  copied_first h =
      let place : 0 ⊕ c 1 ⊕ c 0 ≡ 0 ⊕ c 0 ⊕ c 1 = simp xors in
      copied_is chosen table 0 (pow_pos n) h ∙ rw place

-- the positions in numbers
moved : (table : List ℕ) (number n m : ℕ) {p p' q q' : ℕ} → p ≡ p' → q ≡ q' → AlikeAt table number n m p q → AlikeAt table number n m p' q'
moved table number n m e f same = rw (← e, ← f) same

pub unfit_tells : UnfitTells
unfolding UnfitTells mask_widths method_of found known among at chosen_case
unfit_tells table n m refused = (
  λ same.
      unfit_told 2 5 0 2 (λ x. x) head_2 [] pass_2 [] end_2 refl (lit< tt) (λ n x h. h) (λ n m x c t h. masked_first 2 n m x c t)
      (λ c table. refl) (λ n m. refl) refl table n m refused (moved table 2 n m (omega arith) (omega arith) same),
  λ same.
      unfit_told 3 8 0 3 (λ x. x) head_3 [] pass_3 [] end_3 refl (lit< tt) (λ n x h. h) (λ n m x c t h. masked_first 3 n m x c t)
      (λ c table. refl) (λ n m. refl) refl table n m refused (moved table 3 n m (omega arith) (omega arith) same),
  λ same.
      unfit_told 5 3 2 2 (λ x. 0) head_5 (first_pass_5 ∷ []) second_pass_5 [] end_5 refl (lit< tt) (λ n x h. pow_pos n)
      (λ n m x c t h. copied_first 5 n m x c t h) (λ c table. refl) (λ n m. refl) refl table n m refused
      (moved table 5 n m (omega arith) (omega arith) same),
)
