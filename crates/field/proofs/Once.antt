-- There is one way to write a number in columns: what is read is what is printed of it, a promise of specs/Promises.antt, proved.
use mathlib.Core.Path.{◌≡◌, refl, sym, ap, ◌∙◌}
use mathlib.Core.Bool.{Bool, true, false, ◌&&◌, cond}
use mathlib.Core.List.{List, [], ◌∷◌, ◌++◌, append_assoc, append-nil}
use Prim.Native.Nat.{ℕ, zero, suc, ◌+◌, ◌*◌, ◌-◌, ◌/◌, ◌%◌, ◌^◌, ◌≤◌, ◌<◌}
use native.Mathlib.Nat.{zero-add, add-zero, mul-one, mul_assoc, mul_comm, mul-le-mul_right, pow-suc}
use native.Mathlib.Omega.{arith}
use borrow.Author.Tests.{lt-ltb, eq-eqb, ne_eqb, eqb-true, eqb-false}
use lib.Dec.{eqb, leb}
use lib.ListN.{length, drop}
use Rattle.std.specs.Prelude.{Option, Some, None}
use Rattle.field.specs.Field.{digit, decimal, number, spaces, up_to, field_of}
use Rattle.field.specs.Printed.{mark, front, printed}
use Rattle.field.specs.Promises.{WrittenOnce}
use Rattle.field.proofs.Reading.{digit_low, digit_high, number_found}
use Rattle.field.proofs.Printing.{tenth}

-- DIGITS
-- one more digit of a number
tens : (u d : ℕ) → d < 10 → ((u * 10 + d) / 10 ≡ u) × ((u * 10 + d) % 10 ≡ d)
tens u d h = (omega arith, omega arith)

-- a digit behind what is left of a number
front_more : (columns u d : ℕ) → d < 10 → 0 < u * 10 + d → front (suc columns) (u * 10 + d) ≡ front columns u ++ ((48 + d) ∷ [])
unfolding front mark
front_more columns u d h z = let parts = tens u d h in rw (parts.0, parts.1, ne_eqb (u * 10 + d) 0 (omega arith))

-- a digit that is read: its byte, and what is read on
digit_read : (u byte : ℕ) (bytes : List ℕ) (value : ℕ) → decimal u (byte ∷ bytes) ≡ Some value
    → (48 ≤ byte) × (byte ≤ 57) × (decimal (u * 10 + (byte - 48)) bytes ≡ Some value)
unfolding decimal
digit_read u byte bytes value e = digit_read_by_cases (digit byte) refl e
  where
    digit_read_by_cases : (t : Bool) → digit byte ≡ t → cond t (decimal (u * 10 + (byte - 48)) bytes) None ≡ Some value
        → (48 ≤ byte) × (byte ≤ 57) × (decimal (u * 10 + (byte - 48)) bytes ≡ Some value)
    digit_read_by_cases true q e = (digit_low byte q, digit_high byte q, e)
    digit_read_by_cases false q e = let z : ◌≡◌ {A = ℕ} 0 1 = cc in absurd (omega arith)

-- digits behind what is left of a number, and how large it is with them
decimal_front : (columns u : ℕ) (bytes : List ℕ) (value : ℕ) → 0 < u → decimal u bytes ≡ Some value
    → (front (columns + length bytes) value ≡ front columns u ++ bytes) × (0 < value) × (value < (u + 1) * 10 ^ length bytes)
unfolding decimal
decimal_front columns u [] value z e =
    let same : u ≡ value = cc in
    (rw (sym same, add-zero) (sym (append-nil (front columns u))), omega arith, rw mul-one (omega arith))
decimal_front columns u (byte ∷ bytes) value z e =
    let read = digit_read u byte bytes value e in
    let d = byte - 48 in
    let more = decimal_front (suc columns) (u * 10 + d) bytes value (omega arith) read.2 in
    let back : 48 + d ≡ byte = omega (arith, read.0) in
    let sizes : suc columns + length bytes ≡ columns + suc (length bytes) = omega arith in
    let one : front (suc columns) (u * 10 + d) ≡ front columns u ++ (byte ∷ [])
    = front_more columns u d (omega (arith, read.1)) (omega arith) ∙ rw back in
    let large : (u * 10 + d + 1) * 10 ^ length bytes ≤ (u + 1) * 10 * 10 ^ length bytes
    = mul-le-mul_right (10 ^ length bytes) (omega (arith, read.1)) in
    let power : (u + 1) * 10 ^ suc (length bytes) ≡ (u + 1) * 10 * 10 ^ length bytes
    = rw pow-suc (simp mul_assoc (ap (λ k. (u + 1) * k) (mul_comm _ _))) in
    (rw (sym sizes) (more.0 ∙ rw one (simp append_assoc)), more.1, omega (arith, more.2, large, power))

-- a number other than 0 ends in its last digit, as what is left of one does
printed_front : (columns value : ℕ) → 0 < value → front columns value ≡ printed columns value
unfolding front printed mark
printed_front zero value z = refl
printed_front (suc columns) value z = rw (ne_eqb value 0 (omega arith))

-- NUMBERS
one_digit_once : (byte value : ℕ) → decimal 0 (byte ∷ []) ≡ Some value → (printed 1 value ≡ byte ∷ []) × (value < 10)
unfolding decimal printed front
one_digit_once byte value e =
    let read = digit_read 0 byte [] value e in
    let found : Some (0 + (byte - 48)) ≡ Some value = read.2 in
    let same : 0 + (byte - 48) ≡ value = cc in
    let last : 48 + value % 10 ≡ byte = omega (arith, read.0, read.1) in
    (ap (λ b. b ∷ []) last, omega (arith, read.1))

digits_once : (byte : ℕ) (bytes : List ℕ) (value : ℕ) → (byte ≡ 48 → ⊥) → decimal 0 (byte ∷ bytes) ≡ Some value
    → (printed (suc (length bytes)) value ≡ byte ∷ bytes) × (value < 10 ^ suc (length bytes))
unfolding front
digits_once byte bytes value h e =
    let read = digit_read 0 byte bytes value e in
    let d = byte - 48 in
    let back : 48 + d ≡ byte = omega (arith, read.0) in
    let low : 0 < d = omega (arith, read.0, h) in
    let rest = decimal_front 1 d bytes value low (rw zero-add at read.2) in
    let one : front 1 d ≡ byte ∷ [] = rw zero-add at (front_more 0 0 d (omega (arith, read.1)) (omega arith)) ∙ ap (λ b. b ∷ []) back in
    let large : (d + 1) * 10 ^ length bytes ≤ 10 * 10 ^ length bytes = mul-le-mul_right (10 ^ length bytes) (omega (arith, read.1)) in
    let power : 10 ^ suc (length bytes) ≡ 10 * 10 ^ length bytes = pow-suc 10 (length bytes) ∙ mul_comm _ _ in
    let columns : suc (length bytes) ≡ 1 + length bytes = omega arith in
    let same : printed (suc (length bytes)) value ≡ byte ∷ bytes
    = sym (printed_front (suc (length bytes)) value rest.1) ∙ ap (λ k. front k value) columns ∙ rest.0 ∙ ap (λ l. l ++ bytes) one in
    (same, omega (arith, rest.2, large, power))

number_once : (bytes : List ℕ) (value : ℕ) → number bytes ≡ Some value → (printed (length bytes) value ≡ bytes) × (value < 10 ^ length bytes)
unfolding number
number_once [] value e = let z : ◌≡◌ {A = ℕ} 0 1 = cc in absurd (omega arith)
number_once (byte ∷ []) value e = one_digit_once byte value (one_by_cases (eqb byte 48) e)
  where
    one_by_cases : (t : Bool) → cond (t && false) None (decimal 0 (byte ∷ [])) ≡ Some value → decimal 0 (byte ∷ []) ≡ Some value
    one_by_cases true e = e
    one_by_cases false e = e
number_once (byte ∷ next ∷ bytes) value e =
    number_once_by_cases (eqb byte 48) refl (rw (lt-ltb 0 (length (next ∷ bytes)) (omega arith)) at e)
  where
    number_once_by_cases : (t : Bool) → eqb byte 48 ≡ t → cond (t && true) None (decimal 0 (byte ∷ next ∷ bytes)) ≡ Some value
        → (printed (suc (suc (length bytes))) value ≡ byte ∷ next ∷ bytes) × (value < 10 ^ suc (suc (length bytes)))
    number_once_by_cases true q e = let z : ◌≡◌ {A = ℕ} 0 1 = cc in absurd (omega arith)
    number_once_by_cases false q e = digits_once byte (next ∷ bytes) value (eqb-false _ _ q) e

-- FIELDS
-- a number that has room in fewer columns has a space in front
front_space : (columns left : ℕ) → left < 10 ^ columns → front (suc columns) left ≡ 32 ∷ front columns left
unfolding front mark
front_space zero left h = let none : left ≡ 0 = omega arith in rw none
front_space (suc columns) left h = ap (λ l. l ++ (mark left ∷ [])) (front_space columns (left / 10) (tenth columns left h))

printed_space : (columns value : ℕ) → 0 < columns → value < 10 ^ columns → printed (suc columns) value ≡ 32 ∷ printed columns value
unfolding printed
printed_space zero value z h = absurd (omega arith)
printed_space (suc columns) value z h = ap (λ l. l ++ ((48 + value % 10) ∷ [])) (front_space columns (value / 10) (tenth columns value h))

-- a number has columns
some_columns : (bytes : List ℕ) (value : ℕ) → number (drop (spaces bytes) bytes) ≡ Some value → 0 < length bytes
unfolding number spaces
some_columns [] value e = let z : ◌≡◌ {A = ℕ} 0 1 = cc in absurd (omega arith)
some_columns (byte ∷ bytes) value e = omega arith

field_once : (bytes : List ℕ) (value : ℕ) → number (drop (spaces bytes) bytes) ≡ Some value
    → (printed (length bytes) value ≡ bytes) × (value < 10 ^ length bytes)
unfolding spaces
field_once [] value e = number_once [] value e
field_once (byte ∷ bytes) value e = field_once_by_cases (eqb byte 32) refl e (field_once bytes value)
  where
    field_once_by_cases : (t : Bool) → eqb byte 32 ≡ t → number (drop (cond t (suc (spaces bytes)) 0) (byte ∷ bytes)) ≡ Some value
        → (number (drop (spaces bytes) bytes) ≡ Some value → (printed (length bytes) value ≡ bytes) × (value < 10 ^ length bytes))
        → (printed (suc (length bytes)) value ≡ byte ∷ bytes) × (value < 10 ^ suc (length bytes))
    field_once_by_cases false q e more = number_once (byte ∷ bytes) value e
    field_once_by_cases true q e more =
        let rest = more e in
        let space : byte ≡ 32 = eqb-true _ _ q in
        let power : 10 ^ suc (length bytes) ≡ 10 * 10 ^ length bytes = pow-suc 10 (length bytes) ∙ mul_comm _ _ in
        (printed_space (length bytes) value (some_columns bytes value e) rest.1 ∙ rw (rest.0, space), omega (arith, rest.1, power))

-- the number of a field whose bound is put aside
unbounded : (most : ℕ) (found : Option ℕ) (value : ℕ) → up_to most found ≡ Some value → found ≡ Some value
unfolding up_to
unbounded most None value e = let z : ◌≡◌ {A = ℕ} 0 1 = cc in absurd (omega arith)
unbounded most (Some v) value e = unbounded_by_cases (leb v most) e
  where
    unbounded_by_cases : (t : Bool) → cond t (Some v) None ≡ Some value → Some v ≡ Some value
    unbounded_by_cases true e = e
    unbounded_by_cases false e = let z : ◌≡◌ {A = ℕ} 0 1 = cc in absurd (omega arith)

pub written_once : WrittenOnce
unfolding WrittenOnce field_of
written_once columns most value bytes e =
    let long : length bytes ≡ columns = (number_found columns most bytes value e).0 in
    let found : up_to most (number (drop (spaces bytes) bytes)) ≡ Some value = rw (eq-eqb _ _ long) at e in
    rw (sym long) (field_once bytes value (unbounded most _ value found)).0
