-- Numbers above 255, the longest log, and how much of the input decides: promises of specs/Promises.antt and specs/Wide.antt, proved.
use mathlib.Core.Path.{◌≡◌, refl, sym, ap, ◌∙◌}
use mathlib.Core.Bool.{Bool, true, false, ◌||◌, true≢false}
use mathlib.Core.List.{List, ◌∷◌}
use Prim.Native.Nat.{ℕ, ◌^◌, ◌≤◌, ◌<◌}
use native.Mathlib.Nat.{lt_of_lt_of_le}
use native.Mathlib.Omega.{arith}
use borrow.Author.Tests.{eqb-true}
use lib.Dec.{eqb}
use lib.ListN.{take}
use lib.Pow.{pow_mono}
use Rattle.bits.specs.Xor.{◌⊕◌}
use Rattle.refusals.specs.Left.{left}
use Rattle.refusals.specs.Checks.{first_of}
use Rattle.refusals.specs.Tests.{outside, any_from}
use Rattle.refusals.proofs.Tests.{one_below, none_below}
use Rattle.table.specs.Balanced.{at, count_of}
use Rattle.table.specs.Fit.{occurs, each_value, equally_often, closed, fit}
use Rattle.table.specs.Refusals.{table_checks}
use Rattle.table.proofs.Balanced.{none_from}
use Rattle.wide_table.specs.Wide.{wide}
use Rattle.wide_table.specs.Promises.{WideSix}
use Rattle.wide_table.proofs.Promises.{wide_six}
use Rattle.lookup.specs.Case.{Q}
use Rattle.lookup.specs.Methods.{among, found, known, method_of}
use Rattle.lookup.specs.Refusals.{case_refusal, case_checks, box_checks, method_checks, mask_checks, untaken}
use Rattle.lookup.specs.Promises.{MethodsKnown, LogLong}
use Rattle.lookup.proofs.Accepted.{accepted, accepted_bounded}
use Rattle.lookup.proofs.Promises.{taken_right, methods_known, log_long}
use Rattle.calls.specs.Reply.{called}
use Rattle.case_sheet.specs.Edition.{six_columns}
use Rattle.case_sheet.specs.Sheet.{table_of, well_formed}
use Rattle.case_sheet.specs.Promises.{FrontDecides}
use Rattle.case_sheet.proofs.Promises.{front_decides}
use Rattle.sheet_call.specs.Call.{sheet_case, sheet_refusal, sheet_log, sheet_count, reply, log_left}
use Rattle.sheet_call.specs.Wide.{WideWorked}
use Rattle.sheet_call.specs.Promises.{WideRefused, WideEntry, RefusedUntouched, AcceptedAnswered, LogMost, FrontAsked}
use Rattle.sheet_call.proofs.Replies.{log_small, taken}
use Rattle.sheet_call.proofs.Answers.{wide_case, number_alone, left_alone}

pub wide_worked : WideWorked
unfolding WideWorked case_refusal case_checks box_checks method_checks mask_checks untaken first_of outside any_from at count_of occurs
    each_value equally_often closed fit table_checks Q among found known method_of ◌⊕◌
wide_worked = refl

-- a method that there is has a small number
method_small : (method : ℕ) → known method ≡ true → method < 256
unfolding MethodsKnown
method_small method e = method_small_by_cases (eqb method 2) (eqb method 3) (eqb method 5) refl refl refl (sym (methods_known method) ∙ e)
  where
    method_small_by_cases : (s t u : Bool) → eqb method 2 ≡ s → eqb method 3 ≡ t → eqb method 5 ≡ u → (s || (t || u)) ≡ true → method < 256
    method_small_by_cases true t u p q r e = omega (arith, eqb-true method 2 p)
    method_small_by_cases false true u p q r e = omega (arith, eqb-true method 3 q)
    method_small_by_cases false false true p q r e = omega (arith, eqb-true method 5 r)
    method_small_by_cases false false false p q r e = absurd (true≢false (sym e))

pub wide_refused : WideRefused
unfolding WideRefused
wide_refused table c e =
    let right = accepted c table e in
    let k = accepted_bounded _ c table (taken_right c table right).bit right.1 in
    let t = right.1.table in
    let below : (v : ℕ) → v < 2 ^ c.n → v < 256 = λ v h. lt_of_lt_of_le h k.size in
    let small : 2 ^ c.m ≤ 2 ^ 8 = pow_mono t.output_most in
    let one : (x : ℕ) (xs : List ℕ) → x < 256 → any_from 256 xs ≡ false → any_from 256 (x ∷ xs) ≡ false = one_below 256 in (
      one _ _ (method_small c.method right.0)
          (one _ _ (omega (arith, t.input_most))
          (one _ _ (omega (arith, t.output_most))
          (one _ _ (below _ k.x0)
          (one _ _ (below _ k.r1)
          (one _ _ (below _ k.r2) (one _ _ k.s1 (one _ _ k.s2 (one _ _ (below _ k.r3) (one _ _ (omega (arith, k.b))
          (none_below 256)))))))))),
      none_from 256 table (λ i. omega (arith, t.small i, small)),
    )

pub wide_entry : WideEntry
unfolding WideEntry WideSix wide
wide_entry table c some method input output long =
    let six = wide_six c.method c.n c.m table some method input output long in
    sym (wide_case c table (λ z. omega (arith, six))) ∙ six

pub refused_untouched : RefusedUntouched
unfolding RefusedUntouched reply log_left
refused_untouched input lent h = (sym (left_alone _ _ lent h), sym (number_alone _ _ _ h))

pub accepted_answered : AcceptedAnswered
unfolding AcceptedAnswered reply log_left called left
accepted_answered input lent e = (rw e, rw e)

pub log_most : LogMost
unfolding LogMost LogLong sheet_log sheet_count
log_most input e =
    let whole = (taken six_columns input e).1 in
    ((log_long (table_of six_columns 10 input) (sheet_case six_columns input) whole).0, log_small (sheet_case six_columns input) _ whole)

pub front_asked : FrontAsked
unfolding FrontAsked FrontDecides sheet_refusal
front_asked input =
    let front = front_decides six_columns 10 input (omega arith) (omega arith) in
    (front_by_cases (well_formed six_columns 10 input) refl front.0 front.1, λ e. front.1 (taken six_columns input e).0)
  where
    front_by_cases : (t : Bool) → well_formed six_columns 10 input ≡ t
        → well_formed six_columns 10 (take 4096 input) ≡ well_formed six_columns 10 input
        → (well_formed six_columns 10 input ≡ true → take 4096 input ≡ input)
        → sheet_refusal six_columns (take 4096 input) ≡ sheet_refusal six_columns input
    front_by_cases true w e h = ap (sheet_refusal six_columns) (h w)
    front_by_cases false w e h = rw (e, w)
