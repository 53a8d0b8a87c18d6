-- How a number is printed: its last digit first, and what is left of it before that.
use mathlib.Core.Path.{◌≡◌, refl, sym, ◌∙◌}
use mathlib.Core.List.{List, [], ◌∷◌, ◌++◌, append_assoc, append-nil}
use Prim.Native.Nat.{ℕ, zero, suc, ◌+◌, ◌-◌, ◌/◌, ◌%◌, ◌^◌, ◌≤◌, ◌<◌}
use native.Mathlib.Nat.{add-zero, div-lt_iff_lt-mul, pow-suc}
use native.Mathlib.Omega.{arith}
use lib.Dec.{lit<}
use lib.ListN.{length, take, drop, set, take-append-drop, length-append, length-set}
use lib.Seq.{take-set-le, set_split, drop_at, length-take-le}
use Rattle.buffers.specs.Written.{written}
use Rattle.field.specs.Printed.{mark, front, printed}

-- a digit less
pub tenth : (columns value : ℕ) → value < 10 ^ suc columns → value / 10 < 10 ^ columns
tenth columns value h = (div-lt_iff_lt-mul {k = 10} (lit< tt)).1 (rw pow-suc at h)

pub front_long : (columns left : ℕ) → length (front columns left) ≡ columns
unfolding front
front_long zero left = refl
front_long (suc columns) left = length-append (front columns (left / 10)) (mark left ∷ []) ∙ omega (arith, front_long columns (left / 10))

pub printed_long : (columns value : ℕ) → length (printed columns value) ≡ columns
unfolding printed
printed_long zero value = refl
printed_long (suc columns) value =
    length-append (front columns (value / 10)) ((48 + value % 10) ∷ []) ∙ omega (arith, front_long columns (value / 10))

-- what is written last may be set first
last_first : (old new : List ℕ) (at k x : ℕ) → length new ≡ k → at + k < length old
    → written old at (new ++ (x ∷ [])) ≡ written (set old (at + k) x) at new
unfolding written
last_first old new at k x e h =
    let behind : drop (at + k) (set old (at + k) x) ≡ x ∷ drop (suc (at + k)) old
    = rw (set_split old (at + k) x h) (drop_at (take (at + k) old) _ (at + k) (length-take-le (at + k) old (omega arith))) in
    let sizes : at + length (new ++ (x ∷ [])) ≡ suc (at + k) = omega (arith, length-append new (x ∷ []), e) in
    rw (sizes, take-set-le at old (at + k) x (omega arith), e, behind) (simp append_assoc)

none_left : (old : List ℕ) (at : ℕ) → written old at [] ≡ old
unfolding written
none_left old at = simp (append-nil, add-zero) (take-append-drop at old)

-- so many columns are left to print, and what is left of the number goes there
pub record Printing (before now : List ℕ) (at columns value i left : ℕ) : Type 0 where
  pub rest : written now at (front i left) ≡ written before at (front columns value)
  pub within : i ≤ columns
  pub long : length now ≡ length before

pub printing_turns : (before now : List ℕ) (at columns value i left m : ℕ) → at + columns ≤ length before → 0 < i → m ≡ mark left
    → Printing before now at columns value i left
    → Printing before (set now (at + (i - 1)) m) at columns value (i - 1) (left / 10)
unfolding front
printing_turns before now at columns value zero left m room h e p = absurd (omega arith)
printing_turns before now at columns value (suc k) left m room h e p =
    let less : suc k - 1 ≡ k = omega arith in
    record {
      rest =
          rw (less, e) (sym (last_first now (front k (left / 10)) at k (mark left) (front_long k (left / 10))
          (omega (arith, p.long, p.within))) ∙ p.rest);
      within = omega (arith, p.within);
      long = simp length-set p.long;
    }

pub printing_ends : (before now : List ℕ) (at columns value i left : ℕ) → i ≤ 0 → Printing before now at columns value i left
    → now ≡ written before at (front columns value)
unfolding front
printing_ends before now at columns value zero left h p = sym (none_left now at) ∙ p.rest
printing_ends before now at columns value (suc i) left h p = absurd (omega arith)

-- the last digit, and then what stands before it
pub printing_whole : (before now : List ℕ) (at columns value : ℕ) → 0 < columns → at + columns ≤ length before
    → now ≡ written (set before (at + (columns - 1)) (48 + value % 10)) at (front (columns - 1) (value / 10))
    → now ≡ written before at (printed columns value)
unfolding printed
printing_whole before now at zero value h room e = absurd (omega arith)
printing_whole before now at (suc k) value h room e =
    let less : suc k - 1 ≡ k = omega arith in
    (rw less at e) ∙ sym (last_first before (front k (value / 10)) at k (48 + value % 10) (front_long k (value / 10)) (omega arith))
