-- What is read of the columns of an entry, of entries side by side, and of a figure.
use mathlib.Core.Path.{◌≡◌, refl, ap, ◌∙◌}
use mathlib.Core.Bool.{Bool, true, false, ◌&&◌}
use mathlib.Core.List.{List, [], ◌∷◌, ◌++◌, map, append_assoc}
use Prim.Native.Nat.{ℕ, zero, suc, ◌+◌, ◌-◌, ◌/◌, ◌%◌, ◌^◌, ◌≤◌, ◌<◌}
use native.Mathlib.Omega.{arith}
use borrow.Author.Tests.{ne_eqb}
use lib.Dec.{eqb}
use lib.ListN.{length, take, drop, length-append}
use lib.Seq.{take_at, drop_at}
use Rattle.field.specs.Printed.{front, printed}
use Rattle.field.specs.Promises.{ReadBack}
use Rattle.field.proofs.Printing.{printed_long}
use Rattle.field.proofs.Promises.{read_back}
use Rattle.refusals.specs.Tests.{any_from}
use Rattle.refusals.proofs.Tests.{all_below}
use Rattle.lookup.specs.Entry.{kind_of, value_of, kind_limit}
use Rattle.log_page.specs.Page.{entry_columns, side_by_side, blanks}
use Rattle.log_page.specs.Reading.{blank, Blank, cell, showing, shown, entries_of, figure, shown_from}
use Rattle.log_page.proofs.SideBySide.{entry_long}

-- BLANKS
blank_both : (xs ys : List ℕ) → blank (xs ++ ys) ≡ (blank xs && blank ys)
unfolding blank
blank_both [] ys = refl
blank_both (x ∷ xs) ys = blank_both_by_cases (eqb x 32) (blank_both xs ys)
  where
    blank_both_by_cases : (t : Bool) → blank (xs ++ ys) ≡ (blank xs && blank ys) → (t && blank (xs ++ ys)) ≡ (t && blank xs && blank ys)
    blank_both_by_cases true e = e
    blank_both_by_cases false e = refl

and_false : (t : Bool) → (t && false) ≡ false
and_false true = refl
and_false false = refl

blanks_blank : (count : ℕ) → blank (blanks count) ≡ true
unfolding blank
blanks_blank zero = refl
blanks_blank (suc k) = blanks_blank k

printed_not_blank : (columns value : ℕ) → blank (printed (suc columns) value) ≡ false
unfolding printed blank
printed_not_blank columns value =
    blank_both (front columns (value / 10)) ((48 + value % 10) ∷ [])
    ∙ rw (ne_eqb (48 + value % 10) 32 (λ e. omega arith)) (and_false (blank (front columns (value / 10))))

entry_not_blank : (position entry : ℕ) (rest : List ℕ) → blank (entry_columns position entry ++ rest) ≡ false
unfolding entry_columns
entry_not_blank position entry rest =
    let kind = printed 4 (kind_of entry) in
    let value = printed 6 (value_of entry) in
    ap blank (append_assoc (printed 6 position ++ kind) value rest) ∙ ap blank (append_assoc (printed 6 position) kind (value ++ rest))
    ∙ blank_both (printed 6 position) (kind ++ (value ++ rest)) ∙ rw (printed_not_blank 5 position)

-- CELLS
pub cell_back : (columns value : ℕ) → value < 10 ^ suc columns → cell (suc columns) (printed (suc columns) value) ≡ showing value
unfolding cell ReadBack
cell_back columns value h =
    rw (printed_not_blank columns value, read_back (suc columns) (10 ^ suc columns - 1) value (omega arith) h (omega arith))

pub cell_blank : (columns count : ℕ) → cell columns (blanks count) ≡ Blank
unfolding cell
cell_blank columns count = rw (blanks_blank count)

-- AN ENTRY
value_small : (entry : ℕ) → value_of entry < 10 ^ 6
unfolding value_of
value_small entry = omega arith

entry_shown : (position entry : ℕ) → position < 10 ^ 6 → kind_of entry < 10 ^ 4
    → shown (entry_columns position entry)
    ≡ record { position = showing position; kind = showing (kind_of entry); value = showing (value_of entry) }
unfolding shown entry_columns
entry_shown position entry p k =
    let first = printed 6 position in
    let second = printed 4 (kind_of entry) in
    let third = printed 6 (value_of entry) in
    let six = printed_long 6 position in
    let four = printed_long 4 (kind_of entry) in
    let ten : length (first ++ second) ≡ 10 = length-append first second ∙ omega arith in
    let one : take 6 (first ++ second ++ third) ≡ first = ap (take 6) (append_assoc first second third) ∙ take_at first (second ++ third) 6 six in
    let two : take 4 (drop 6 (first ++ second ++ third)) ≡ second
    = ap (λ l. take 4 (drop 6 l)) (append_assoc first second third)
    ∙ ap (take 4) (drop_at first (second ++ third) 6 six) ∙ take_at second third 4 four in
    rw (one, two, drop_at (first ++ second) third 10 ten, cell_back 5 position p, cell_back 3 (kind_of entry) k)
    (rw (cell_back 5 (value_of entry) (value_small entry)))

-- entries side by side, and spaces behind them
pub text_shown : (times position : ℕ) (entries : List ℕ) (count : ℕ) → length entries ≤ times → position + length entries ≤ 10 ^ 6
    → any_from kind_limit (map kind_of entries) ≡ false
    → entries_of times (side_by_side position entries ++ blanks count) ≡ shown_from position entries
unfolding side_by_side entries_of shown_from
text_shown zero position [] count h few known = refl
text_shown zero position (e ∷ es) count h few known = absurd (omega arith)
text_shown (suc k) position [] count h few known = rw (blanks_blank count)
text_shown (suc k) position (e ∷ es) count h few known =
    let here = entry_columns position e in
    let rest = side_by_side (position + 1) es ++ blanks count in
    let parts = all_below kind_limit (kind_of e) (map kind_of es) known in
    rw (
      append_assoc here (side_by_side (position + 1) es) (blanks count),
      take_at here rest 16 (entry_long position e),
      drop_at here rest 16 (entry_long position e),
      entry_not_blank position e rest,
      entry_shown position e (omega arith) (omega (arith, parts.0)),
    )
    (ap (λ l. record { position = showing position; kind = showing (kind_of e); value = showing (value_of e) } ∷ l)
    (text_shown k (position + 1) es count (omega arith) (omega arith) parts.1))

-- A FIGURE
-- six columns, and a number in ten
pub figure_back : (head : List ℕ) (number : ℕ) → length head ≡ 6 → number < 10 ^ 10
    → figure (head ++ printed 10 number) ≡ record { kind = cell 6 head; times = showing number }
unfolding figure
figure_back head number six h =
    rw (take_at head (printed 10 number) 6 six, drop_at head (printed 10 number) 6 six, cell_back 9 number h)
