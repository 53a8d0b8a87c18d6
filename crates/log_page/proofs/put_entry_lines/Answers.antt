-- `log_page::put_entry_lines` meets its contract.
use Rattle.std.proofs.Common.{rules}
use Rattle.log_page.proofs.FiveALine.{lined_begins, lined_turns, lined_left, lined_long}
use Rattle.log_page.proofs.put_entry_lines.Goals as goal

pub loop-k-init : goal.loop-k-init
loop-k-init c = search (rules, lined_begins)

pub loop-k-preserved : goal.loop-k-preserved
loop-k-preserved c =
    let step = c.in-Some.ensures.steps in
    lined_turns _ _ _ _ _ _ c.loop-k.invariant _ _ _ _ _ _ c.requires.1 step.0.1.0 step.0.1.1 step.0.1.2 step.0.0 step.1 step.2
    c.put_entry_line.ensures

pub returns-clause-value : goal.returns-clause-value
returns-clause-value c = search lined_long

pub returns-clause-output_after : goal.returns-clause-output_after
returns-clause-output_after c = lined_left _ _ _ _ _ _ c.loop-k.invariant c.in-None.ensures.steps.0.1.0
