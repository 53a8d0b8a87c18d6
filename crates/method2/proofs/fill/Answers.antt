use Rattle.method2.proofs.Filling.{from_first, filling_begins, filling_put, filling_ends, filling_in_scratch}
use Rattle.method2.proofs.fill.Goals as goal

pub loop-a-init : goal.loop-a-init
loop-a-init c = search filling_begins

pub put_masked_entry-requires-clause-to_in_bounds : goal.put_masked_entry-requires-clause-to_in_bounds
put_masked_entry-requires-clause-to_in_bounds c = search (filling_in_scratch, from_first)

pub loop-a-preserved : goal.loop-a-preserved
loop-a-preserved c = search (filling_put, from_first)

pub returns : goal.returns
returns c = search filling_ends
