-- `refusals::outside` meets its contract.
use borrow.Author.Tests.{lt-ltb, le-ltb}
use Rattle.refusals.specs.Tests.{outside}
use Rattle.refusals.proofs.outside.Goals as goal

pub returns-then-value-low : goal.returns-then-value-low
unfolding outside
returns-then-value-low c = rw (lt-ltb _ _ c.if-value-low.true)

pub returns-else-value-low : goal.returns-else-value-low
unfolding outside
returns-else-value-low c = rw (le-ltb _ _ c.if-value-low.false)
