-- How a field is read: spaces, then digits up to the end.
use mathlib.Core.Path.{◌≡◌, refl, sym, ap, ◌∙◌}
use mathlib.Core.Bool.{Bool, true, false, ◌&&◌, cond, and-eq-true_iff}
use mathlib.Core.List.{List, [], ◌∷◌}
use Prim.Native.Nat.{ℕ, suc, ◌+◌, ◌*◌, ◌-◌, ◌≤◌, ◌<◌}
use native.Mathlib.Numerals.{add-one}
use native.Mathlib.Omega.{arith}
use borrow.Author.Tests.{le-leb, lt-leb, lt-ltb, le-ltb, eq-eqb, ne_eqb, leb-true, eqb-true}
use lib.Dec.{leb, eqb}
use lib.ListN.{length, get_or, take, drop, drop_of_length-le, length-drop}
use lib.Seq.{drop-cons, take_all}
use Rattle.std.specs.Prelude.{◌==◌, Option, Some, None}
use Rattle.std.specs.Char.{is_ascii_digit}
use Rattle.std.specs.List.{take_while, prefix_len}
use Rattle.std.proofs.lemmas.List.Folds.{length-prefix_len}
use Rattle.field.specs.Field.{digit, decimal, number, spaces, up_to, field_of}

-- SPACES
-- the spaces in front are what is taken while it is a space
pub spaces_counted : {r : ℕ} (bytes : List ℕ) → r ≡ length (take_while (λ byte. byte == 32) bytes) → r ≡ spaces bytes
unfolding spaces
spaces_counted bytes e = e ∙ length-prefix_len (λ byte. byte == 32) bytes ∙ prefix_spaces bytes
  where
    prefix_spaces : (bytes : List ℕ) → prefix_len (λ byte. byte == 32) bytes ≡ spaces bytes
    prefix_spaces [] = refl
    prefix_spaces (byte ∷ bytes) =
        let more : 1 + prefix_len (λ byte. byte == 32) bytes ≡ suc (spaces bytes) = omega (arith, prefix_spaces bytes) in
        ap (λ n. cond (byte == 32) n 0) more

pub spaces_within : (bytes : List ℕ) → spaces bytes ≤ length bytes
unfolding spaces
spaces_within [] = omega arith
spaces_within (byte ∷ bytes) = spaces_within_by_cases (eqb byte 32) (spaces_within bytes)
  where
    spaces_within_by_cases : (t : Bool) {n k : ℕ} → n ≤ k → cond t (suc n) 0 ≤ suc k
    spaces_within_by_cases true h = omega arith
    spaces_within_by_cases false h = omega arith

-- DIGITS
pub digit_low : (byte : ℕ) → digit byte ≡ true → 48 ≤ byte
unfolding digit
digit_low byte e = leb-true 48 byte ((and-eq-true_iff (leb 48 byte) (leb byte 57)).0 e).0

pub digit_high : (byte : ℕ) → digit byte ≡ true → byte ≤ 57
unfolding digit
digit_high byte e = leb-true byte 57 ((and-eq-true_iff (leb 48 byte) (leb byte 57)).0 e).1

-- a value above the largest stays above it
above : (most value : ℕ) (bytes : List ℕ) → most < value → up_to most (decimal value bytes) ≡ None
unfolding decimal up_to
above most value [] h = rw (lt-leb value most h)
above most value (byte ∷ bytes) h = above_by_cases (digit byte) (above most (value * 10 + (byte - 48)) bytes (omega arith))
  where
    above_by_cases : (t : Bool) → up_to most (decimal (value * 10 + (byte - 48)) bytes) ≡ None
        → up_to most (cond t (decimal (value * 10 + (byte - 48)) bytes) None) ≡ None
    above_by_cases true e = e
    above_by_cases false e = refl

-- so many digits read, and what is left decides
pub record Reading (most : ℕ) (bytes : List ℕ) (value i : ℕ) : Type 0 where
  pub left : up_to most (decimal 0 bytes) ≡ up_to most (decimal value (drop i bytes))
  pub small : value ≤ most
  pub within : i ≤ length bytes

decimal_rest : (value : ℕ) (bytes : List ℕ) (i : ℕ) → i < length bytes
    → decimal value (drop i bytes)
    ≡ cond (digit (get_or bytes i 0)) (decimal (value * 10 + (get_or bytes i 0 - 48)) (drop (i + 1) bytes)) None
unfolding decimal
decimal_rest value bytes i h = rw (drop-cons bytes i 0 h, add-one)

module _ {r : Bool} (most : ℕ) (bytes : List ℕ) (value i : ℕ) (h : i < length bytes) (t : r ≡ is_ascii_digit (get_or bytes i 0))
    (p : Reading most bytes value i) where
  digit_told : digit (get_or bytes i 0) ≡ r
  unfolding digit
  digit_told = sym t

  pub no_digit : r ≡ false → None ≡ up_to most (decimal 0 bytes)
  unfolding up_to
  no_digit e = sym (p.left ∙ rw (decimal_rest value bytes i h, digit_told ∙ e))

  -- one digit more, and the bound as the code has them
  module _ (e : r ≡ true) (d bound : ℕ) (same : d ≡ get_or bytes i 0 - 48) (bounded : bound ≡ most) where
    next : up_to most (decimal 0 bytes) ≡ up_to most (decimal (value * 10 + d) (drop (i + 1) bytes))
    next = p.left ∙ rw (decimal_rest value bytes i h, digit_told ∙ e, same)

    pub too_large : bound < value * 10 + d → None ≡ up_to most (decimal 0 bytes)
    too_large l = sym (next ∙ above most _ _ (omega arith))

    pub one_read : value * 10 + d ≤ bound → Reading most bytes (value * 10 + d) (i + 1)
    one_read l = record { left = next; small = omega arith; within = omega arith }

pub all_read : (most : ℕ) (bytes : List ℕ) (value i : ℕ) → length bytes ≤ i → Reading most bytes value i
    → Some value ≡ up_to most (decimal 0 bytes)
unfolding decimal up_to
all_read most bytes value i h p = sym (p.left ∙ rw (drop_of_length-le bytes h, le-leb value most p.small))

-- NUMBERS
pub no_digits : (most : ℕ) (bytes : List ℕ) → length bytes ≡ 0 → None ≡ up_to most (number bytes)
unfolding number up_to
no_digits most [] e = refl
no_digits most (byte ∷ bytes) e = absurd (omega arith)

pub leading_zero : (most : ℕ) (bytes : List ℕ) → 1 < length bytes → get_or bytes 0 0 ≡ 48 → None ≡ up_to most (number bytes)
unfolding number up_to
leading_zero most [] l e = absurd (omega arith)
leading_zero most (byte ∷ bytes) l e = rw (eq-eqb byte 48 e, lt-ltb 0 (length bytes) (omega arith))

pub more_digits : {r : Option ℕ} (most : ℕ) (bytes : List ℕ) → 0 < length bytes → (get_or bytes 0 0 ≡ 48 → ⊥)
    → r ≡ up_to most (decimal 0 bytes)
    → r ≡ up_to most (number bytes)
unfolding number
more_digits most [] z e f = absurd (omega arith)
more_digits most (byte ∷ bytes) z e f = rw (ne_eqb byte 48 e) f

pub one_digit : {r : Option ℕ} (most : ℕ) (bytes : List ℕ) → 0 < length bytes → length bytes ≤ 1 → r ≡ up_to most (decimal 0 bytes)
    → r ≡ up_to most (number bytes)
unfolding number
one_digit most [] z e f = absurd (omega arith)
one_digit {r} most (byte ∷ bytes) z e f = rw (le-ltb 0 (length bytes) (omega arith)) (one_digit_by_cases (eqb byte 48))
  where
    one_digit_by_cases : (t : Bool) → r ≡ up_to most (cond (t && false) None (decimal 0 (byte ∷ bytes)))
    one_digit_by_cases true = f
    one_digit_by_cases false = f

-- FIELDS
pub other_width : (columns most : ℕ) (bytes : List ℕ) → (length bytes ≡ columns → ⊥) → None ≡ field_of columns most bytes
unfolding field_of
other_width columns most bytes e = rw (ne_eqb (length bytes) columns e)

pub reading_whole : {r : Option ℕ} (columns most start : ℕ) (bytes : List ℕ) → length bytes ≡ columns → start ≡ spaces bytes
    → r ≡ up_to most (number (take (length bytes - start) (drop start bytes))) → r ≡ field_of columns most bytes
unfolding field_of
reading_whole columns most start bytes e s f =
    let rest : take (length bytes - start) (drop start bytes) ≡ drop start bytes
    = take_all (length bytes - start) (drop start bytes) (omega (arith, length-drop start bytes)) in
    f ∙ rw rest (rw (eq-eqb (length bytes) columns e, s))

pub start_within : (bytes : List ℕ) (start : ℕ) → start ≡ spaces bytes → start ≤ length bytes
start_within bytes start e = omega (arith, spaces_within bytes)

-- a field that has a number: its width, and the number's bound
up_to_small : (most : ℕ) (found : Option ℕ) (value : ℕ) → up_to most found ≡ Some value → value ≤ most
unfolding up_to
up_to_small most None value e = let z : ◌≡◌ {A = ℕ} 0 1 = cc in absurd (omega arith)
up_to_small most (Some v) value e = up_to_small_by_cases (leb v most) refl e
  where
    up_to_small_by_cases : (t : Bool) → leb v most ≡ t → cond t (Some v) None ≡ Some value → value ≤ most
    up_to_small_by_cases true q e = let same : v ≡ value = cc in omega (arith, leb-true v most q)
    up_to_small_by_cases false q e = let z : ◌≡◌ {A = ℕ} 0 1 = cc in absurd (omega arith)

pub number_found : (columns most : ℕ) (bytes : List ℕ) (value : ℕ) → field_of columns most bytes ≡ Some value
    → (length bytes ≡ columns) × (value ≤ most)
unfolding field_of
number_found columns most bytes value e = number_found_by_cases (eqb (length bytes) columns) refl e
  where
    number_found_by_cases : (t : Bool) → eqb (length bytes) columns ≡ t
        → cond t (up_to most (number (drop (spaces bytes) bytes))) None ≡ Some value
        → (length bytes ≡ columns) × (value ≤ most)
    number_found_by_cases true q e = (eqb-true _ _ q, up_to_small most _ value e)
    number_found_by_cases false q e = let z : ◌≡◌ {A = ℕ} 0 1 = cc in absurd (omega arith)
