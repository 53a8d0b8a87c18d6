-- A text of whole lines, split into them again.
use mathlib.Core.Path.{◌≡◌, refl, sym, ap, ◌∙◌}
use mathlib.Core.List.{List, [], ◌∷◌, ◌++◌, append_assoc, append-nil}
use Prim.Native.Nat.{ℕ, zero, suc, ◌/◌}
use native.Mathlib.Omega.{arith}
use borrow.Author.Tests.{ne_eqb}
use lib.ListN.{length}
use Rattle.field.specs.Printed.{mark, front, printed}
use Rattle.lookup.proofs.Each.{Each, none, more, each_append}
use Rattle.log_page.specs.Page.{blanks, rising}
use Rattle.log_page.specs.Reading.{split, text_lines, ended, entry_text, lines_below}

-- NO LINE FEED
abbrev pub Plain : List ℕ → Type 0
Plain bytes = Each (λ byte. byte ≡ 10 → ⊥) bytes

space_plain : ◌≡◌ {A = ℕ} 32 10 → ⊥
space_plain e = omega arith

pub blanks_plain : (count : ℕ) → Plain (blanks count)
blanks_plain zero = none
blanks_plain (suc k) = more space_plain (blanks_plain k)

mark_plain : (left : ℕ) → mark left ≡ 10 → ⊥
unfolding mark
mark_plain zero e = omega (arith, e)
mark_plain (suc k) e = omega (arith, sym (rw (ne_eqb (suc k) 0 (λ z. omega arith)) at e))

front_plain : (columns left : ℕ) → Plain (front columns left)
unfolding front
front_plain zero left = none
front_plain (suc k) left = each_append (front_plain k (left / 10)) (more (mark_plain left) none)

pub printed_plain : (columns value : ℕ) → Plain (printed columns value)
unfolding printed
printed_plain zero value = none
printed_plain (suc k) value = each_append (front_plain k (value / 10)) (more (λ e. omega (arith, e)) none)

-- LINES
line_off : (passed line rest : List ℕ) → Plain line → split passed (line ++ (10 ∷ []) ++ rest) ≡ (passed ++ line) ∷ split [] rest
unfolding split
line_off passed [] rest none = ap (λ l. l ∷ split [] rest) (sym (append-nil passed))
line_off passed (byte ∷ bytes) rest (more p d) =
    rw (ne_eqb byte 10 p)
    (line_off (passed ++ (byte ∷ [])) bytes rest d ∙ ap (λ l. l ∷ split [] rest) (append_assoc passed (byte ∷ []) bytes))

ended_both : (ls ms : List (List ℕ)) → ended (ls ++ ms) ≡ ended ls ++ ended ms
unfolding ended
ended_both [] ms = refl
ended_both (l ∷ ls) ms = rw (ended_both ls ms) (sym (append_assoc (l ++ (10 ∷ [])) (ended ls) (ended ms)))

-- a text that is these lines, each ended
pub record Whole (text : List ℕ) (lines : List (List ℕ)) : Type 0 where
  pub off : (rest : List ℕ) → text_lines (text ++ rest) ≡ lines ++ text_lines rest
  pub joined : ended lines ≡ text

pub whole_none : Whole [] []
unfolding ended
whole_none = record { off = λ rest. refl; joined = refl }

pub whole_both : {s t : List ℕ} {ls ms : List (List ℕ)} → Whole s ls → Whole t ms → Whole (s ++ t) (ls ++ ms)
whole_both {s} {t} {ls} {ms} w v =
    record {
      off = λ rest. rw (append_assoc s t rest) (w.off (t ++ rest) ∙ rw (v.off rest) (sym (append_assoc ls ms _)));
      joined = ended_both ls ms ∙ rw (w.joined, v.joined);
    }

pub whole_line : (line : List ℕ) → Plain line → Whole (line ++ (10 ∷ [])) (line ∷ [])
unfolding text_lines ended
whole_line line p = record { off = λ rest. line_off [] line rest p; joined = append-nil (line ++ (10 ∷ [])) }

pub whole_rising : (part : ℕ → List ℕ) (lines : ℕ → List (List ℕ)) → ((k : ℕ) → Whole (part k) (lines k)) → (k : ℕ)
    → Whole (rising k part) (rising k lines)
unfolding rising
whole_rising part lines w zero = whole_none
whole_rising part lines w (suc k) = whole_both (whole_rising part lines w k) (w k)

pub whole_split : {text : List ℕ} {lines : List (List ℕ)} → Whole text lines → text_lines text ≡ lines
unfolding text_lines split
whole_split {text} {lines} w = rw (append-nil text, append-nil lines) at (w.off [])

-- WHICH LINES ARE WHICH
pub flat : List (List ℕ) → List ℕ
flat [] = []
flat (l ∷ ls) = l ++ flat ls

flat_both : (ls ms : List (List ℕ)) → flat (ls ++ ms) ≡ flat ls ++ flat ms
unfolding flat
flat_both [] ms = refl
flat_both (l ∷ ls) ms = rw (flat_both ls ms) (sym (append_assoc l (flat ls) (flat ms)))

-- lines of one part each
pub flat_rising : (line : ℕ → List ℕ) (k : ℕ) → flat (rising k (λ i. line i ∷ [])) ≡ rising k line
unfolding flat rising
flat_rising line zero = refl
flat_rising line (suc k) =
    flat_both (rising k (λ i. line i ∷ [])) (line k ∷ []) ∙ rw (flat_rising line k) (ap (λ l. rising k line ++ l) (append-nil (line k)))

pub each_rising : {P : List ℕ → Type 0} (lines : ℕ → List (List ℕ)) → ((k : ℕ) → Each P (lines k)) → (k : ℕ) → Each P (rising k lines)
unfolding rising
each_rising lines h zero = none
each_rising lines h (suc k) = each_append (each_rising lines h k) (h k)

-- lines of 80 columns, and others below them
abbrev Wide : List ℕ → Type 0
Wide line = length line ≡ 80

abbrev Narrow : List ℕ → Type 0
Narrow line = length line ≡ 16

below_them : {ls : List (List ℕ)} → Each Narrow ls → (entry_text ls ≡ []) × (lines_below ls ≡ ls)
unfolding entry_text lines_below
below_them none = (refl, refl)
below_them (more e d) = (rw e, rw e)

pub apart : {ls ms : List (List ℕ)} → Each Wide ls → Each Narrow ms → (entry_text (ls ++ ms) ≡ flat ls) × (lines_below (ls ++ ms) ≡ ms)
unfolding entry_text lines_below flat
apart none b = below_them b
apart (more {x = l} e d) b =
    let rest = apart d b in
    (rw e (ap (λ t. l ++ t) rest.0), rw e rest.1)
