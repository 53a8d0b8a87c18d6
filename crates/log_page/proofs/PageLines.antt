-- The lines of a page, without their line feeds: which are entry lines, and which stand below.
use mathlib.Core.Path.{◌≡◌, ap, ◌∙◌}
use mathlib.Core.List.{List, [], ◌∷◌, ◌++◌, append_assoc}
use Prim.Native.Nat.{ℕ, zero, suc, ◌+◌, ◌*◌, ◌-◌}
use native.Mathlib.Omega.{arith}
use lib.ListN.{length, take, drop, length-append}
use Rattle.field.specs.Printed.{printed}
use Rattle.field.proofs.Printing.{printed_long}
use Rattle.lookup.specs.Entry.{kind_limit}
use Rattle.lookup.proofs.Each.{Each, none, more, each_append}
use Rattle.log_print.specs.Lines.{line_of}
use Rattle.log_page.specs.Page.{entry_columns, side_by_side, blanks, filled, rising, lines_of_five, lines_needed, often}
use Rattle.log_page.specs.Page.{kind_line, kind_lines, total_line, page_of}
use Rattle.log_page.specs.Reading.{text_lines, entry_text, lines_below}
use Rattle.log_page.proofs.Blanks.{blanks_long}
use Rattle.log_page.proofs.FiveALine.{five_most}
use Rattle.log_page.proofs.Splitting.{Plain, blanks_plain, printed_plain, Whole, whole_none, whole_both, whole_line, whole_rising}
use Rattle.log_page.proofs.Splitting.{whole_split, flat_rising, each_rising, apart}

side_plain : (position : ℕ) (entries : List ℕ) → Plain (side_by_side position entries)
unfolding side_by_side entry_columns
side_plain position [] = none
side_plain position (e ∷ es) =
    each_append (each_append (each_append (printed_plain 6 position) (printed_plain 4 _)) (printed_plain 6 _)) (side_plain (position + 1) es)

-- an entry line, without its line feed
unfoldable pub five : List ℕ → ℕ → List ℕ
five log k = side_by_side (5 * k) (take 5 (drop (5 * k) log))

unfoldable pub entry_body : List ℕ → ℕ → List ℕ
entry_body log k = five log k ++ blanks (80 - length (five log k))

-- six columns, and a number in ten
unfoldable pub figure_body : (head : List ℕ) → ℕ → List ℕ
figure_body head number = head ++ printed 10 number

unfoldable pub kind_bodies : (kind times : ℕ) → List (List ℕ)
kind_bodies kind zero = []
kind_bodies kind (suc k) = figure_body (printed 6 kind) (suc k) ∷ []

five_whole : (log : List ℕ) (k : ℕ) → Whole (filled 80 (five log k)) (entry_body log k ∷ [])
unfolding filled five entry_body
five_whole log k =
    whole_line (entry_body log k) (each_append (side_plain (5 * k) (take 5 (drop (5 * k) log))) (blanks_plain (80 - length (five log k))))

figure_whole : (head : List ℕ) (number : ℕ) → Plain head → Whole (head ++ line_of 10 (number ∷ [])) (figure_body head number ∷ [])
unfolding line_of figure_body
figure_whole head number p =
    rw (← append_assoc head (printed 10 number) (10 ∷ [])) (whole_line (head ++ printed 10 number) (each_append p (printed_plain 10 number)))

kind_whole : (kind times : ℕ) → Whole (kind_line kind times) (kind_bodies kind times)
unfolding kind_line kind_bodies
kind_whole kind zero = whole_none
kind_whole kind (suc k) = figure_whole (printed 6 kind) (suc k) (printed_plain 6 kind)

module _ (log : List ℕ) where
  unfoldable pub entry_bodies : List (List ℕ)
  entry_bodies = rising (lines_needed (length log)) (λ k. entry_body log k ∷ [])

  unfoldable pub below_bodies : List (List ℕ)
  below_bodies = rising kind_limit (λ kind. kind_bodies kind (often kind log)) ++ (figure_body (blanks 6) (length log) ∷ [])

  pub page_whole : Whole (page_of log) (entry_bodies ++ below_bodies)
  unfolding page_of lines_of_five kind_lines total_line entry_bodies below_bodies five
  page_whole =
      rw (← append_assoc (rising (lines_needed (length log)) (λ k. entry_body log k ∷ []))
      (rising kind_limit (λ kind. kind_bodies kind (often kind log))) (figure_body (blanks 6) (length log) ∷ []))
      (whole_both
      (whole_both (whole_rising _ _ (five_whole log) (lines_needed (length log)))
      (whole_rising _ _ (λ kind. kind_whole kind (often kind log)) kind_limit))
      (figure_whole (blanks 6) (length log) (blanks_plain 6)))

  -- which are entry lines, and which stand below
  pub body_wide : (k : ℕ) → length (entry_body log k) ≡ 80
  unfolding entry_body five
  body_wide k =
      length-append (five log k) _ ∙ omega (arith, blanks_long (80 - length (five log k)), five_most log k)

  figure_narrow : (head : List ℕ) (number : ℕ) → length head ≡ 6 → length (figure_body head number) ≡ 16
  unfolding figure_body
  figure_narrow head number six = length-append head (printed 10 number) ∙ omega (arith, printed_long 10 number)

  kind_narrow : (kind times : ℕ) → Each (λ line. length line ≡ 16) (kind_bodies kind times)
  unfolding kind_bodies
  kind_narrow kind zero = none
  kind_narrow kind (suc k) = more (figure_narrow (printed 6 kind) (suc k) (printed_long 6 kind)) none

  pub parts : (entry_text (text_lines (page_of log)) ≡ rising (lines_needed (length log)) (entry_body log))
      × (lines_below (text_lines (page_of log)) ≡ below_bodies)
  unfolding entry_bodies below_bodies
  parts =
      let both =
      apart (each_rising (λ k. entry_body log k ∷ []) (λ k. more (body_wide k) none) (lines_needed (length log)))
      (each_append (each_rising (λ kind. kind_bodies kind (often kind log)) (λ kind. kind_narrow kind (often kind log)) kind_limit)
      (more (figure_narrow (blanks 6) (length log) (blanks_long 6)) none)) in
      let lines = whole_split page_whole in
      (ap entry_text lines ∙ both.0 ∙ flat_rising (entry_body log) (lines_needed (length log)), ap lines_below lines ∙ both.1)
