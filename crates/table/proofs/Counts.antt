-- What the loop over a table keeps, and the bits of joined numbers.
use mathlib.Core.Path.{◌≡◌, refl, sym, ◌∙◌}
use mathlib.Core.Bool.{Bool, true, false, ◌||◌, cond, or_assoc, or-false}
use mathlib.Core.List.{List, [], ◌∷◌}
use Prim.Native.Nat.{ℕ, suc, ◌+◌, ◌^◌, ◌≤◌, ◌<◌}
use native.Mathlib.Nat.{add-zero, zero-add, add_assoc, le_trans}
use native.Mathlib.Numerals.{add-one}
use native.Mathlib.Omega.{arith}
use borrow.Author.Tests.{leb-true, leb-false, le-leb, lt-leb, eqb-true, eqb-false, eq-eqb}
use mir.Syntax.{w16}
use mir.Val.{Fits}
use lib.Bits.{bit_or, or_lt}
use lib.Dec.{eqb, leb}
use lib.ListN.{length, get_or, set, drop, replicate, length-set, length-replicate, get_or-replicate, drop_of_length-le}
use lib.Pow.{pow_pos}
use lib.Seq.{drop-cons, get_or-set_same, get_or-set_other}
use Rattle.std.proofs.lemmas.Nat.{le_or_l, le_or_r}
use Rattle.refusals.specs.Tests.{any_from}
use Rattle.table.specs.Balanced.{at, count_of}
use Rattle.table.specs.Counts.{Tally}

-- they are 2^m or more when one of the sides is
or_large : (m a b : ℕ) → leb (2 ^ m) (bit_or a b) ≡ (leb (2 ^ m) a || leb (2 ^ m) b)
or_large m a b = or_large_by_cases (leb (2 ^ m) a) (leb (2 ^ m) b) refl refl
  where
    or_large_by_cases : (s t : Bool) → leb (2 ^ m) a ≡ s → leb (2 ^ m) b ≡ t → leb (2 ^ m) (bit_or a b) ≡ (s || t)
    or_large_by_cases true t e f = le-leb _ _ (le_trans (leb-true _ _ e) (le_or_l a b))
    or_large_by_cases false true e f = le-leb _ _ (le_trans (leb-true _ _ f) (le_or_r a b))
    or_large_by_cases false false e f = lt-leb _ _ (or_lt m a b (leb-false _ _ e) (leb-false _ _ f))

-- one counter is raised
pub one_more : (counts : List ℕ) (e v : ℕ) → e < length counts → at (set counts e (get_or counts e 0 + 1)) v ≡ at counts v + cond (eqb e v) 1 0
unfolding at
one_more counts e v h = one_more_by_cases (eqb e v) refl
  where
    one_more_by_cases : (t : Bool) → eqb e v ≡ t → get_or (set counts e (get_or counts e 0 + 1)) v 0 ≡ get_or counts v 0 + cond t 1 0
    one_more_by_cases true q = rw (← eqb-true e v q) (get_or-set_same counts e _ 0 h)
    one_more_by_cases false q = get_or-set_other counts e v _ 0 (λ p. eqb-false e v q (sym p)) ∙ sym (add-zero _)

-- no value stands in a list more often than the list is long
pub count_within : (v : ℕ) (xs : List ℕ) → count_of v xs ≤ length xs
unfolding count_of
count_within v [] = omega arith
count_within v (x ∷ xs) = count_within_by_cases (eqb x v) (count_within v xs)
  where
    count_within_by_cases : (t : Bool) → count_of v xs ≤ length xs → cond t 1 0 + count_of v xs ≤ suc (length xs)
    count_within_by_cases true h = omega arith
    count_within_by_cases false h = omega arith

-- after i entries: their counts, to which those of the other entries are still to be added, and their bits
pub record Tallying (xs : List ℕ) (i : ℕ) (counts : List ℕ) (joined : ℕ) : Type 0 where
  pub long : length counts ≡ 256
  pub counted : (v : ℕ) → v < 256 → at counts v + count_of v (drop i xs) ≡ count_of v xs
  pub large : (m : ℕ) → any_from (2 ^ m) xs ≡ (leb (2 ^ m) joined || any_from (2 ^ m) (drop i xs))

pub tallying_begins : (xs counts : List ℕ) → counts ≡ replicate 256 0 → Tallying xs 0 counts 0
unfolding at
tallying_begins xs counts e = rw e (record {
  long = length-replicate {A = ℕ} 256 0;
  counted = λ v h. rw (get_or-replicate {A = ℕ} 256 v 0 0 h) (zero-add _);
  large = λ m. rw (lt-leb (2 ^ m) 0 (pow_pos m));
})

pub tallying_turns : (xs : List ℕ) (i : ℕ) (counts : List ℕ) (joined : ℕ) → i < length xs → get_or xs i 0 < 256 → Tallying xs i counts joined
    → Tallying xs (i + 1) (set counts (get_or xs i 0) (get_or counts (get_or xs i 0) 0 + 1)) (bit_or joined (get_or xs i 0))
unfolding count_of any_from
tallying_turns xs i counts joined h b t =
    rw (add-one i)
    (record {
      long = length-set counts _ _ ∙ t.long;
      counted =
          λ v l. rw (one_more counts (get_or xs i 0) v (omega (arith, t.long))) (add_assoc _ _ _
          ∙ (rw (drop-cons xs i 0 h) at (t.counted v l)));
      large = λ m. rw (or_large m joined (get_or xs i 0)) ((rw (drop-cons xs i 0 h) at (t.large m)) ∙ sym (or_assoc (leb (2 ^ m) joined) _ _));
    })

-- a counter is less than the number of entries, so it has room for more
pub counter_small : (xs : List ℕ) (i : ℕ) (counts : List ℕ) (joined : ℕ) → length xs ≤ 256 → i < length xs → get_or xs i 0 < 256
    → Tallying xs i counts joined → get_or counts (get_or xs i 0) 0 < 256
unfolding at count_of
counter_small xs i counts joined few h b t =
    let e = get_or xs i 0 in
    let here : get_or counts e 0 + (1 + count_of e (drop (suc i) xs)) ≡ count_of e xs
    = rw (drop-cons xs i 0 h, eq-eqb e e refl) at (t.counted e b) in
    omega (arith, count_within e xs)

pub counter_fits : (n k : ℕ) → n < 256 → k ≤ 256 → Fits w16 (n + k)
counter_fits n k h l = record { fits = omega arith }

pub tallying_ends : (xs : List ℕ) (i : ℕ) (counts : List ℕ) (joined : ℕ) → length xs ≤ i → Tallying xs i counts joined
    → Tally xs counts joined
unfolding count_of any_from
tallying_ends xs i counts joined h t =
    record {
      long = t.long;
      counted = λ v l. sym (add-zero _) ∙ (rw (drop_of_length-le xs h) at (t.counted v l));
      large = λ m. (rw (drop_of_length-le xs h) at (t.large m)) ∙ or-false _;
    }
