-- From the log that the call of a sheet left to the print.
use mathlib.Core.Path.{◌≡◌, refl}
use mathlib.Core.Bool.{Bool, true, false, cond}
use mathlib.Core.List.{List, [], ◌∷◌}
use Prim.Native.Nat.{ℕ, zero, suc, ◌+◌, ◌*◌, ◌≤◌}
use native.Mathlib.Omega.{arith}
use borrow.Author.Tests.{ne_eqb}
use lib.Dec.{eqb}
use lib.ListN.{length, take}
use Rattle.case_sheet.specs.declared.Edition.{Edition}
use Rattle.case_sheet.specs.Edition.{six_columns}
use Rattle.case_sheet.specs.Sheet.{well_formed}
use Rattle.log_print.specs.Lines.{line_of, answer_lines, unless_refused}
use Rattle.sheet_call.specs.Call.{sheet_case, sheet_refusal, sheet_answer, sheet_log, sheet_count, reply as call_reply, log_left}
use Rattle.sheet_call.proofs.Replies.{share, count, few, entries, entries_lent}
use Rattle.sheet.specs.Print.{reply, print_in}

-- a malformed sheet prints 1 alone, and one that is refused its number
either_printed : (columns k : ℕ) (lines : List ℕ) (t : Bool)
    → cond t (cond (eqb k 0) lines (line_of columns (k ∷ []))) (line_of columns (1 ∷ [])) ≡ unless_refused columns (cond t k 1) lines
unfolding unless_refused
either_printed columns zero lines true = refl
either_printed columns (suc k) lines true = rw (ne_eqb (suc k) 0 (λ e. absurd (omega arith)))
either_printed columns k lines false = refl

-- what the call of a sheet answers is printed
pub printed : (edition : Edition) (columns : ℕ) (input : List ℕ)
    → print_in edition columns input
    ≡ unless_refused columns (sheet_refusal edition input)
    (answer_lines columns (sheet_log edition input) (sheet_answer edition input) (sheet_count edition input))
unfolding print_in reply sheet_refusal sheet_log sheet_answer sheet_count sheet_case
printed edition columns input = either_printed columns _ _ (well_formed edition 10 input)

module _ (input : List ℕ) (s n : ℕ) (told : record { refusal = 0; share = s; count = n } ≡ call_reply input) (lent now : List ℕ)
    (left_is : now ≡ log_left input lent) where
  pub answer_room : (output : List ℕ) → length output ≡ 45056 → 19 * length (take n now) + 19 ≤ length output
  answer_room output h = omega (arith, entries_lent input s n told lent now left_is, few input s n told)

  pub answered : answer_lines 6 (take n now) s n
      ≡ answer_lines 6 (sheet_log six_columns input) (sheet_answer six_columns input) (sheet_count six_columns input)
  answered = rw (entries input s n told lent now left_is, share input s n told, count input s n told)
