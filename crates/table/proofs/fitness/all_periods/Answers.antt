use borrow.Author.Tests.{not-true, not-false}
use Rattle.refusals.proofs.Tests.{told}
use Rattle.table.proofs.Differences.{periods_begin, periods_turn, periods_stop, periods_end}
use Rattle.table.proofs.fitness.all_periods.Goals as goal

-- what the call of `is_period` tells
ruleset tests = (told, not-true, not-false)

pub loop-bit-init : goal.loop-bit-init
loop-bit-init c = search periods_begin

pub returns-then-not-is_period : goal.returns-then-not-is_period
returns-then-not-is_period c = search (periods_stop, tests)

pub loop-bit-preserved : goal.loop-bit-preserved
loop-bit-preserved c = search (periods_turn, tests)

pub returns : goal.returns
returns c = search periods_end
