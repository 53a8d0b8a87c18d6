-- `wide_table::wide_refusal` meets its contract.
use Rattle.wide_table.proofs.Refusing.{power_known, told_wide, at_none, at_2, at_3, at_4, at_5, at_6}
use Rattle.wide_table.proofs.wide_refusal.Goals as goal

pub returns-then-not-any_number_from : goal.returns-then-not-any_number_from
returns-then-not-any_number_from c = search (at_none, told_wide)

pub returns-then-not-known : goal.returns-then-not-known
returns-then-not-known c = search (at_2, told_wide)

pub returns-then-outside : goal.returns-then-outside
returns-then-outside c = search (at_3, told_wide)

pub returns-then-outside-2 : goal.returns-then-outside-2
returns-then-outside-2 c = search (at_4, told_wide)

pub power-requires : goal.power-requires
power-requires c = power_known _ _ c.outside.ensures c.if-outside.false

pub returns-then-table-power : goal.returns-then-table-power
returns-then-table-power c = search (at_5, told_wide)

pub returns : goal.returns
returns c = search (at_6, told_wide)
