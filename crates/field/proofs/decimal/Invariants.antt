-- `field::decimal` meets its contract. The invariant is `Reading`.
use Rattle.field.proofs.Reading.{Reading}
use Rattle.field.proofs.decimal.Given as goal

abbrev pub invariant-loop-byte : goal.invariant-loop-byte
invariant-loop-byte l = Reading l.most l.bytes l.value l.byte-index
