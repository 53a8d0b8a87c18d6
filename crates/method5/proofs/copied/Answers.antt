-- `method5::copied` meets its contract.
use borrow.Author.Rules.{rules}
use Rattle.bits.specs.Xor.{◌⊕◌}
use Rattle.table.specs.Balanced.{at}
use Rattle.lookup.specs.Method5.{copied}
use Rattle.method5.proofs.copied.Goals as goal

pub bounds-from-index : goal.bounds-from-index
unfolding ◌⊕◌
bounds-from-index c = search rules

pub returns : goal.returns
unfolding copied at ◌⊕◌
returns c = search rules
