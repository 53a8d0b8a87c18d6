-- From what the call told of a sheet to what is printed of it: lines of an accepted one, or the number of its refusal.
use mathlib.Core.Path.{◌≡◌, sym, ap, ◌∙◌}
use mathlib.Core.List.{List, [], ◌∷◌}
use Prim.Native.Nat.{ℕ}
use lib.ListN.{length}
use Rattle.buffers.specs.Written.{in_front}
use Rattle.refusals.specs.declared.Refusal.{Refusal}
use Rattle.refusals.specs.Numbers.{number_of}
use Rattle.refusals.proofs.Numbers.{not_zero}
use Rattle.case_sheet.specs.Edition.{six_columns}
use Rattle.log_print.specs.Lines.{line_of, unless_refused}
use Rattle.log_print.proofs.Refused.{number_alone, nothing_refused}
use Rattle.sheet_call.specs.Call.{sheet_refusal, reply}
use Rattle.sheet_call.proofs.Replies.{refused_number, none}

module _ (input lines : List ℕ) where
  module _ (refusal : Refusal) (told : record { refusal = number_of refusal; share = 0; count = 0 } ≡ reply input) where
    refused : line_of 6 (number_of refusal ∷ []) ≡ unless_refused 6 (sheet_refusal six_columns input) lines
    refused =
        number_alone 6 (number_of refusal) lines (not_zero refusal)
        ∙ ap (λ k. unless_refused 6 k lines) (refused_number input (number_of refusal) told)

    -- by its number, as the code told it
    module _ (n : ℕ) (number : n ≡ number_of refusal) where
      its_line : line_of 6 (n ∷ []) ≡ unless_refused 6 (sheet_refusal six_columns input) lines
      its_line = rw number refused

      pub refused_long : {k : ℕ} → k ≡ length (line_of 6 (n ∷ [])) → k ≡ length (unless_refused 6 (sheet_refusal six_columns input) lines)
      refused_long e = e ∙ ap length its_line

      pub refused_left : (before now : List ℕ) → now ≡ in_front (line_of 6 (n ∷ [])) before
          → now ≡ in_front (unless_refused 6 (sheet_refusal six_columns input) lines) before
      refused_left before now e = e ∙ ap (λ l. in_front l before) its_line

  -- what was made of the log that was left is what should be made of the log
  module _ (s n : ℕ) (told : record { refusal = 0; share = s; count = n } ≡ reply input) (made : List ℕ) (same : made ≡ lines) where
    accepted : made ≡ unless_refused 6 (sheet_refusal six_columns input) lines
    accepted = same ∙ sym (nothing_refused 6 (sheet_refusal six_columns input) lines (none input s n told))

    pub accepted_long : {k : ℕ} → k ≡ length made → k ≡ length (unless_refused 6 (sheet_refusal six_columns input) lines)
    accepted_long e = e ∙ ap length accepted

    pub accepted_left : (before now : List ℕ) → now ≡ in_front made before
        → now ≡ in_front (unless_refused 6 (sheet_refusal six_columns input) lines) before
    accepted_left before now e = e ∙ ap (λ l. in_front l before) accepted
