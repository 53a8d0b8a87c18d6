use borrow.Author.Count.{below_more}
use mathlib.Core.Path.{sym, ◌∙◌}
use Rattle.table.specs.Balanced.{at}
use Rattle.table.proofs.Differences.{zero_period, agreeing_stops, agreeing_ends}
use Rattle.table.proofs.fitness.is_period.Goals as goal

pub returns-then-difference-eq0 : goal.returns-then-difference-eq0
returns-then-difference-eq0 c = search zero_period

pub returns-then-count_at-counts : goal.returns-then-count_at-counts
returns-then-count_at-counts c = search agreeing_stops

pub loop-value-preserved : goal.loop-value-preserved
unfolding at
loop-value-preserved c = below_more _ _ c.loop-value.invariant (sym c.count_at.ensures ∙ c.if-count_at-counts.false)

pub returns : goal.returns
returns c = search agreeing_ends
