-- `linear::layer_refusal` meets its contract.
use Rattle.refusals.proofs.Tests.{told, told_from}
use Rattle.shares.proofs.Replies.{width_small}
use Rattle.linear.proofs.Refusal.{at_3, at_4, at_8, at_9_row, at_9_constant}
use Rattle.linear.proofs.Refusal.{at_10, at_end, output_small, constant_wide, constant_small}
use Rattle.linear.proofs.layer_refusal.Goals as goal

ruleset tests = (told, told_from, constant_wide, constant_small)

pub returns-then-outside : goal.returns-then-outside
returns-then-outside c = search (at_3, tests)

pub returns-then-outside-2 : goal.returns-then-outside-2
returns-then-outside-2 c = search (at_4, tests)

pub returns-then-rows-output_width : goal.returns-then-rows-output_width
returns-then-rows-output_width c = search (at_8, tests)

pub power-requires : goal.power-requires
power-requires c = search (width_small, tests)

pub returns-then-any_number_from : goal.returns-then-any_number_from
returns-then-any_number_from c = search (at_9_row, tests)

pub power-requires-2 : goal.power-requires-2
power-requires-2 c = search output_small

pub returns-then-power-constant : goal.returns-then-power-constant
returns-then-power-constant c = search (at_9_constant, tests)

pub power-requires-3 : goal.power-requires-3
power-requires-3 c = search (width_small, tests)

pub returns-then-any_number_from-2 : goal.returns-then-any_number_from-2
returns-then-any_number_from-2 c = search (at_10, tests)

pub returns : goal.returns
returns c = search (at_end, tests)
