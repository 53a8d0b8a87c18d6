use borrow.Author.Rules.{rules}
use Rattle.method3.proofs.Selecting.{selecting_begins, selecting_ends, place_in_scratch, byte_a_register, selecting_put}
use Rattle.method3.proofs.select.Goals as goal

pub loop-a-init : goal.loop-a-init
loop-a-init c = search selecting_begins

pub bounds-scratch-at : goal.bounds-scratch-at
bounds-scratch-at c = search place_in_scratch

pub put_masked_entry-requires-clause-to_in_bounds : goal.put_masked_entry-requires-clause-to_in_bounds
put_masked_entry-requires-clause-to_in_bounds c = search (byte_a_register, rules)

pub loop-a-preserved : goal.loop-a-preserved
loop-a-preserved c = search selecting_put

pub returns : goal.returns
returns c = search selecting_ends
