-- `shares::width_refusal` meets its contract.
use Rattle.refusals.proofs.Tests.{told, told_from}
use Rattle.shares.proofs.Replies.{at_3, at_10, at_end, width_small}
use Rattle.shares.proofs.width_refusal.Goals as goal

pub returns-then-outside : goal.returns-then-outside
returns-then-outside c = search (at_3, told)

pub power-requires : goal.power-requires
power-requires c = search (width_small, told)

pub returns-then-any_number_from : goal.returns-then-any_number_from
returns-then-any_number_from c = search (at_10, told, told_from)

pub returns : goal.returns
returns c = search (at_end, told, told_from)
