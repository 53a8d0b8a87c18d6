-- How the log is written: the three words, and then part by part.
use mathlib.Core.Path.{◌≡◌, refl, ap, ◌∙◌}
use mathlib.Core.List.{List, [], ◌∷◌, ◌++◌, append-nil}
use Prim.Native.Nat.{ℕ, ◌-◌}
use native.Mathlib.Omega.{arith}
use lib.Bits.{bit_xor}
use lib.ListN.{length, set, drop, length-append, drop_of_length-le}
use Rattle.bits.specs.Xor.{◌⊕◌}
use Rattle.lookup.specs.Entry.{entry}
use Rattle.buffers.specs.Written.{written, in_front}
use Rattle.buffers.proofs.Written.{written_more, written_front}
use Rattle.log_entries.specs.Entries.{entries}
use Rattle.halves.specs.declared.Selection.{Selection}
use Rattle.halves.specs.Halves.{half, c3, masked, share}
use Rattle.selection.specs.Log.{bit_values, half_values}
use Rattle.selection.specs.Log.{input_entries, half_entries, share_entries, log_of}
use Rattle.selection.specs.Select.{selected}

pub three_written : (log : List ℕ) (u v w e f g : ℕ) → length log ≡ 28 → e ≡ entry 1 u → f ≡ entry 2 v → g ≡ entry 3 w
    → set (set (set log 0 e) 1 f) 2 g ≡ written log 0 (entries (1 ∷ 2 ∷ 3 ∷ []) (u ∷ v ∷ w ∷ []))
unfolding written entries
three_written [] u v w e f g h d k l = absurd (omega arith)
three_written (x ∷ []) u v w e f g h d k l = absurd (omega arith)
three_written (x ∷ y ∷ []) u v w e f g h d k l = absurd (omega arith)
three_written (x ∷ y ∷ z ∷ rest) u v w e f g h d k l = rw (d, k, l)

-- how many entries the parts of the log have
inputs_long : (s : Selection) → length (input_entries s) ≡ 11
unfolding input_entries entries bit_values
inputs_long s = refl

halves_long : (s : Selection) → length (half_entries s) ≡ 14
unfolding half_entries entries half_values
halves_long s = refl

shares_long : (s : Selection) → length (share_entries s) ≡ 3
unfolding share_entries entries
shares_long s = refl

pub log_long : (s : Selection) → length (log_of s) ≡ 28
unfolding log_of
log_long s =
    length-append (input_entries s ++ half_entries s) (share_entries s)
    ∙ omega (arith, length-append (input_entries s) (half_entries s), inputs_long s, halves_long s, shares_long s)

module _ (s : Selection) (log : List ℕ) (size : length log ≡ 28) where
  pub inputs_written : (words next : List ℕ) → words ≡ written log 0 (entries (1 ∷ 2 ∷ 3 ∷ []) (s.z0 ∷ s.z1 ∷ s.z2 ∷ []))
      → next ≡ written words 3 (entries (11 ∷ 4 ∷ 5 ∷ 6 ∷ 7 ∷ 8 ∷ 9 ∷ 10 ∷ []) (bit_values s)) → next ≡ written log 0 (input_entries s)
  unfolding input_entries entries bit_values
  inputs_written words next e f = f ∙ rw e (written_more log 0 3 _ _ refl (omega arith))

  pub halves_written : (chosen next : List ℕ) → chosen ≡ written log 11 (entries (12 ∷ 13 ∷ 14 ∷ 15 ∷ 16 ∷ 17 ∷ 18 ∷ []) (half_values s s.c0))
      → next ≡ written chosen 18 (entries (19 ∷ 20 ∷ 21 ∷ 22 ∷ 23 ∷ 25 ∷ 26 ∷ []) (half_values s (1 - s.c0)))
      → next ≡ written log 11 (half_entries s)
  unfolding half_entries entries half_values
  halves_written chosen next e f = f ∙ rw e (written_more log 11 18 _ _ refl (omega arith))

  pub log_written : (inputs halves next : List ℕ) → inputs ≡ written log 0 (input_entries s) → halves ≡ written inputs 11 (half_entries s)
      → next ≡ written halves 25 (share_entries s) → next ≡ log_of s
  unfolding log_of in_front
  log_written inputs halves next e f g =
      let one = inputs_long s in
      let two = halves_long s in
      let three = shares_long s in
      let four = length-append (input_entries s) (half_entries s) in
      let none_left : drop (length (input_entries s ++ half_entries s ++ share_entries s)) log ≡ []
      = drop_of_length-le log (omega (arith, log_long s)) in
      g ∙ rw (f, e, written_more log 0 11 (input_entries s) (half_entries s) (omega (arith, one)) (omega (arith, two)))
      (written_more log 0 25 (input_entries s ++ half_entries s) (share_entries s) (omega (arith, one, two, four)) (omega (arith, three)))
      ∙ written_front log _ ∙ ap (λ rest. (input_entries s ++ half_entries s ++ share_entries s) ++ rest) none_left ∙ append-nil _

-- and what stood behind the 28 entries in front still stands there
pub front_written : (s : Selection) (lent front : List ℕ) → front ≡ log_of s → front ++ drop 28 lent ≡ in_front (log_of s) lent
unfolding in_front
front_written s lent front e = rw (e, log_long s)

-- the values of a half, from the three halves
pub values_of : (s : Selection) (bit p q r : ℕ) → p ≡ half s.width bit s.z0 → q ≡ half s.width bit s.z1
    → r ≡ half s.width bit s.z2
    → p ∷ bit_xor p s.t1 ∷ q ∷ bit_xor q s.t2 ∷ r ∷ bit_xor r s.t1 ∷ bit_xor (bit_xor r s.t1) s.t2 ∷ [] ≡ half_values s bit
unfolding half_values masked ◌⊕◌
values_of s bit p q r e f g = rw (e, f, g)

pub bits_of : (s : Selection) (place : ℕ) → place ≡ c3 s
    → s.c0 ∷ s.c1 ∷ s.c2 ∷ s.t1 ∷ s.t2 ∷ s.b ∷ bit_xor s.c1 s.b ∷ place ∷ [] ≡ bit_values s
unfolding bit_values ◌⊕◌
bits_of s place e = rw e

-- what was read of the registers stands in the log
pub shares_written : (s : Selection) (log next : List ℕ) (p q r : ℕ) → p ≡ share 0 s → q ≡ share 1 s → r ≡ share 2 s
    → next ≡ written log 25 (entries (27 ∷ 28 ∷ 29 ∷ []) (p ∷ q ∷ r ∷ [])) → next ≡ written log 25 (share_entries s)
unfolding share_entries
shares_written s log next p q r e f g w = w ∙ rw (e, f, g)

pub shares_handed : (s : Selection) (p q r : ℕ) → p ≡ share 0 s → q ≡ share 1 s → r ≡ share 2 s
    → record { refusal = 0; first = p; second = q; third = r; count = 28 } ≡ selected 0 (share 0 s) (share 1 s) (share 2 s)
unfolding selected
shares_handed s p q r e f g = rw (e, f, g)
