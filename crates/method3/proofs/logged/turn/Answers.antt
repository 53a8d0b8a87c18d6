-- `method3::logged::turn` meets its contract.
use borrow.Author.Rules.{rules}
use Rattle.bits.specs.Xor.{◌⊕◌}
use Rattle.table.specs.Balanced.{at}
use Rattle.lookup.specs.Row.{masked}
use Rattle.lookup.specs.Method3.{place_3}
use Rattle.lookup.proofs.Runs.{in_table}
use Rattle.method3.proofs.Comparing.{in_scratch, byte_is}
use Rattle.method3.proofs.logged.turn.Goals as goal

pub bounds-scratch-at : goal.bounds-scratch-at
unfolding place_3 ◌⊕◌
bounds-scratch-at c = search in_scratch

pub bounds-lookup-from : goal.bounds-lookup-from
bounds-lookup-from c = search in_table

pub returns : goal.returns
unfolding masked at place_3 ◌⊕◌
returns c =
    let start = c in
    rw (byte_is start.args.lookup.case start.args.scratch.now start.args.a (search rules) (search rules) (search rules))
