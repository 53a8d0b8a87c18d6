-- The print of a log is that of narrow entries: line by line, kind and value are the same.
use mathlib.Core.Path.{◌≡◌, refl, ap, ap₂}
use mathlib.Core.Bool.{cond}
use mathlib.Core.List.{List, [], ◌∷◌, ◌++◌}
use Prim.Native.Nat.{ℕ, zero, suc, ◌+◌}
use native.Mathlib.Omega.{arith}
use borrow.Author.Tests.{ne_eqb}
use lib.Dec.{eqb}
use lib.ListN.{length}
use Rattle.table.specs.Balanced.{at}
use Rattle.lookup.specs.declared.Case.{Case}
use Rattle.lookup.specs.Entry.{kind_of, value_of}
use Rattle.lookup.specs.NarrowEntry.{narrow_kind_of, narrow_value_of, narrow_log, SaysTheSame}
use Rattle.lookup.specs.Call.{answer, log_of, log_length}
use Rattle.lookup.specs.Refusals.{case_refusal}
use Rattle.lookup.specs.Promises.{WideAsNarrow}
use Rattle.lookup.proofs.Promises.{wide_as_narrow}
use Rattle.case_sheet.specs.Sheet.{well_formed}
use Rattle.log_print.specs.Lines.{line_of, entry_lines, answer_lines}
use Rattle.sheet.specs.Print.{reply, print_in}
use Rattle.sheet.specs.NarrowPrint.{narrow_lines, narrow_reply, narrow_print_in}
use Rattle.sheet.specs.Promises.{PrintAsNarrow}

-- entries that say the same at each position print the same lines
lines_as_narrow : (columns position : ℕ) (new old : List ℕ) → length new ≡ length old
    → ((i : ℕ) → SaysTheSame (at new i) (at old i)) → entry_lines columns position new ≡ narrow_lines columns position old
unfolding entry_lines narrow_lines kind_of value_of narrow_kind_of narrow_value_of at
lines_as_narrow columns position [] [] e h = refl
lines_as_narrow columns position [] (o ∷ os) e h = absurd (omega arith)
lines_as_narrow columns position (n ∷ ns) [] e h = absurd (omega arith)
lines_as_narrow columns position (n ∷ ns) (o ∷ os) e h =
    ap₂ ◌++◌ (ap₂ (λ kind value. line_of columns (position ∷ kind ∷ value ∷ [])) (h 0).0 (h 0).1)
    (lines_as_narrow columns (position + 1) ns os (omega arith) (λ i. h (suc i)))

-- what is printed only for accepted cases need agree for those alone
where_accepted : (refusal : ℕ) {new old : List ℕ} (refused : List ℕ) → (refusal ≡ 0 → new ≡ old)
    → cond (eqb refusal 0) new refused ≡ cond (eqb refusal 0) old refused
where_accepted zero refused h = h refl
where_accepted (suc k) refused h = rw (ne_eqb (suc k) 0 (λ e. absurd (omega arith)))

reply_as_narrow : (columns : ℕ) (c : Case) (table : List ℕ) → reply columns c table ≡ narrow_reply columns c table
unfolding reply narrow_reply answer_lines WideAsNarrow
reply_as_narrow columns c table =
    let last = line_of columns (0 ∷ answer c table ∷ log_length c.method c.n ∷ []) in
    where_accepted (case_refusal c table) _
    (λ e.
    let same = wide_as_narrow table c e in
    ap (λ ls. ls ++ last) (lines_as_narrow columns 0 (log_of c table) (narrow_log c table) same.0 same.2))

pub print_as_narrow : PrintAsNarrow
unfolding PrintAsNarrow print_in narrow_print_in
print_as_narrow edition columns input =
    ap (λ r. cond (well_formed edition 10 input) r (line_of columns (1 ∷ []))) (reply_as_narrow columns _ _)
