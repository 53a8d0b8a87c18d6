-- What is printed is read back: a promise of specs/Promises.antt, proved.
use mathlib.Core.Path.{◌≡◌, refl, ap, ◌∙◌}
use mathlib.Core.Bool.{Bool, true, false, ◌&&◌, cond}
use mathlib.Core.List.{List, [], ◌∷◌, ◌++◌, append_assoc}
use Prim.Native.Nat.{ℕ, zero, suc, ◌+◌, ◌*◌, ◌-◌, ◌/◌, ◌%◌, ◌^◌, ◌<◌}
use native.Mathlib.Nat.{div-add-mod', mod-lt}
use native.Mathlib.Omega.{arith}
use borrow.Author.Tests.{le-leb, eq-eqb, ne_eqb}
use lib.Dec.{eqb, lit<}
use lib.ListN.{drop}
use Rattle.std.specs.Prelude.{Some, None}
use Rattle.field.specs.Field.{digit, decimal, number, spaces, up_to, field_of}
use Rattle.field.specs.Printed.{mark, front, printed}
use Rattle.field.specs.Promises.{ReadBack}
use Rattle.field.proofs.Printing.{tenth, printed_long}

-- what follows the spaces in front
unspaced : List ℕ → List ℕ
unspaced bytes = drop (spaces bytes) bytes

space_off : (bytes : List ℕ) → unspaced (32 ∷ bytes) ≡ unspaced bytes
unfolding unspaced spaces
space_off bytes = refl

other_on : (byte : ℕ) (bytes : List ℕ) → (byte ≡ 32 → ⊥) → unspaced (byte ∷ bytes) ≡ byte ∷ bytes
unfolding unspaced spaces
other_on byte bytes h = rw (ne_eqb byte 32 h)

-- where nothing is left of a number, there are spaces
spaces_off : (columns : ℕ) (bytes : List ℕ) → unspaced (front columns 0 ++ bytes) ≡ unspaced bytes
unfolding front mark
spaces_off zero bytes = refl
spaces_off (suc columns) bytes = rw append_assoc (spaces_off columns (32 ∷ bytes) ∙ space_off bytes)

digit_on : (value d : ℕ) (bytes : List ℕ) → d < 10 → decimal value ((48 + d) ∷ bytes) ≡ decimal (value * 10 + d) bytes
unfolding decimal digit
digit_on value d bytes h =
    let back : 48 + d - 48 ≡ d = omega arith in
    rw (le-leb 48 (48 + d) (omega arith), le-leb (48 + d) 57 (omega arith), back)

-- a digit behind what is read of the columns before it
one_more : (columns u d : ℕ) (bytes : List ℕ) → d < 10 → 0 < u * 10 + d
    → (0 < u → number (unspaced (front columns u ++ (48 + d) ∷ bytes)) ≡ decimal u ((48 + d) ∷ bytes))
    → number (unspaced (front columns u ++ (48 + d) ∷ bytes)) ≡ decimal (u * 10 + d) bytes
unfolding number
one_more columns zero d bytes h z e =
    rw (spaces_off columns ((48 + d) ∷ bytes), other_on (48 + d) bytes (omega arith), ne_eqb (48 + d) 48 (omega arith)) (digit_on 0 d bytes h)
one_more columns (suc u) d bytes h z e = e (omega arith) ∙ digit_on (suc u) d bytes h

front_read : (columns value : ℕ) (bytes : List ℕ) → 0 < value → value < 10 ^ columns
    → number (unspaced (front columns value ++ bytes)) ≡ decimal value bytes
unfolding front mark
front_read zero value bytes z h = absurd (omega arith)
front_read (suc columns) value bytes z h =
    let parts : value / 10 * 10 + value % 10 ≡ value = div-add-mod' value 10 in
    let fits : value / 10 < 10 ^ columns = tenth columns value h in
    rw (append_assoc, ne_eqb value 0 (omega arith))
    (one_more columns (value / 10) (value % 10) bytes (mod-lt value (lit< tt)) (omega arith) (λ p. front_read columns (value / 10) _ p fits)
    ∙ ap (λ v. decimal v bytes) parts)

-- the last digit, which may be the only one
last_read : (columns u d : ℕ) → d < 10 → u < 10 ^ columns → number (unspaced (front columns u ++ (48 + d) ∷ [])) ≡ Some (u * 10 + d)
unfolding number decimal
last_read columns zero d h l =
    rw (spaces_off columns ((48 + d) ∷ []), other_on (48 + d) [] (omega arith)) (last_read_by_cases (eqb (48 + d) 48) ∙ digit_on 0 d [] h)
  where
    last_read_by_cases : (t : Bool) → cond (t && false) None (decimal 0 ((48 + d) ∷ [])) ≡ decimal 0 ((48 + d) ∷ [])
    last_read_by_cases true = refl
    last_read_by_cases false = refl
last_read columns (suc u) d h l = front_read columns (suc u) ((48 + d) ∷ []) (omega arith) l ∙ digit_on (suc u) d [] h

pub read_back : ReadBack
unfolding ReadBack field_of printed up_to unspaced
read_back zero most value z h l = absurd (omega arith)
read_back (suc columns) most value z h l =
    let parts : value / 10 * 10 + value % 10 ≡ value = div-add-mod' value 10 in
    rw (
      eq-eqb _ _ (printed_long (suc columns) value),
      last_read columns (value / 10) (value % 10) (mod-lt value (lit< tt)) (tenth columns value h),
      parts,
      le-leb value most l,
    )
