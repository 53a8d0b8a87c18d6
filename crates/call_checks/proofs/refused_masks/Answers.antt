-- `call_checks::refused_masks` meets its contract.
use Rattle.call_checks.proofs.Masks.{wide_x0, wide_r1, wide_r2, wide_r3, wide_s1, wide_s2, at_12, all_taken}
use Rattle.call_checks.proofs.refused_masks.Goals as goal

pub returns-then-inputs-case : goal.returns-then-inputs-case
returns-then-inputs-case c = search wide_x0

pub returns-then-inputs-case-2 : goal.returns-then-inputs-case-2
returns-then-inputs-case-2 c = search wide_r1

pub returns-then-inputs-case-3 : goal.returns-then-inputs-case-3
returns-then-inputs-case-3 c = search wide_r2

pub returns-then-inputs-case-4 : goal.returns-then-inputs-case-4
returns-then-inputs-case-4 c = search wide_r3

pub returns-then-outputs-case : goal.returns-then-outputs-case
returns-then-outputs-case c = search wide_s1

pub returns-then-outputs-case-2 : goal.returns-then-outputs-case-2
returns-then-outputs-case-2 c = search wide_s2

pub returns-then-untaken : goal.returns-then-untaken
returns-then-untaken c = search at_12

pub returns : goal.returns
returns c = search all_taken
