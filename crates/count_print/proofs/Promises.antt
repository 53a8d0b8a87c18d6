-- The promises of specs/Promises.antt, proved.
use mathlib.Core.Path.{◌≡◌, refl}
use mathlib.Core.Bool.{Bool, true, false, cond}
use mathlib.Core.List.{List, [], ◌∷◌, ◌++◌, append_assoc}
use Prim.Native.Nat.{◌*◌, ◌^◌, ◌≤◌}
use native.Mathlib.Nat.{mul-le-mul}
use native.Mathlib.Omega.{arith}
use borrow.Author.Tests.{le-ltb}
use Rattle.refusals.specs.Checks.{Check, ◌when◌, first_of}
use Rattle.refusals.specs.Tests.{any_from}
use Rattle.refusals.proofs.Tests.{all_below}
use Rattle.lookup.specs.Call.{log_length}
use Rattle.case_sheet.specs.Edition.{six_columns}
use Rattle.case_sheet.specs.Sheet.{numbers_of, table_of}
use Rattle.case_sheet.proofs.Promises.{front_answers}
use Rattle.log_print.specs.Lines.{line_of}
use Rattle.count_sheet.specs.declared.ProbePair.{ProbePair}
use Rattle.count_sheet.specs.Refusals.{value_width, pair_checks, buffer_checks, sheet_checks, count_refusal}
use Rattle.count_sheet.proofs.Places.{squared}
use Rattle.count_print.specs.Print.{pair_read, print_refusal, reply, print}
use Rattle.count_print.specs.Promises.{LentEnough, FrontPrinted}
use Rattle.count_print.proofs.Refusals.{width_small, side_most, log_small, scratch_small}

-- where a list of checks lets all through, what stands behind it decides
same_behind : (cs ds es : List Check) → (first_of cs ≡ 0 → first_of ds ≡ first_of es) → first_of (cs ++ ds) ≡ first_of (cs ++ es)
unfolding first_of
same_behind [] ds es h = h refl
same_behind (c ∷ cs) ds es h = same_behind_by_cases c.applies h (same_behind cs ds es)
  where
    same_behind_by_cases : (t : Bool) → (cond t c.number (first_of cs) ≡ 0 → first_of ds ≡ first_of es)
        → ((first_of cs ≡ 0 → first_of ds ≡ first_of es) → first_of (cs ++ ds) ≡ first_of (cs ++ es))
        → cond t c.number (first_of (cs ++ ds)) ≡ cond t c.number (first_of (cs ++ es))
    same_behind_by_cases true g f = refl
    same_behind_by_cases false g f = f g

-- of five checks the first two do not apply, nor does the last where the third does not
third_and_fourth : (a b c d e : Bool) → a ≡ false → b ≡ false → (c ≡ false → e ≡ false)
    → first_of (13 when a ∷ 14 when b ∷ 15 when c ∷ 16 when d ∷ 17 when e ∷ []) ≡ first_of (15 when c ∷ 16 when d ∷ [])
unfolding first_of
third_and_fourth a b true d e f g h = rw (f, g)
third_and_fourth a b false d e f g h = rw (f, g, h refl)

-- n and m at most 3: a sheet has at most 64 counts
sheet_most : (p : ProbePair) → any_from 4 (p.n ∷ p.m ∷ []) ≡ false → 2 ^ (2 * value_width p) ≤ 64
sheet_most p e =
    let n = all_below 4 p.n _ e in
    let m = all_below 4 p.m _ n.1 in
    let most = side_most p (width_small p (omega (arith, n.0)) (omega (arith, m.0))) in
    rw (squared (value_width p)) (mul-le-mul most most)

pub lent_enough : LentEnough
unfolding LentEnough print_refusal count_refusal buffer_checks sheet_checks
lent_enough table p =
    rw append_assoc
    (same_behind (pair_checks p table) _ _
    (λ e. third_and_fourth _ _ _ _ _ (le-ltb _ _ (scratch_small p table e)) (le-ltb 2400 (log_length p.method p.n) (omega (arith, log_small p table e)))
    (λ f. le-ltb _ _ (sheet_most p f))))

pub front_printed : FrontPrinted
unfolding FrontPrinted print
front_printed input =
    front_answers six_columns 6 input (omega arith) (omega arith)
    (λ i. reply (pair_read (numbers_of six_columns 6 i)) (table_of six_columns 6 i)) (line_of 6 (1 ∷ []))
