-- `table::table_refusal` meets its contract.
use native.Mathlib.Nat.{le_of_lt}
use borrow.Author.Tests.{not-true, not-false}
use Rattle.refusals.proofs.Tests.{told}
use Rattle.table.proofs.Refusals.{at_3, at_4, at_5, at_6, at_7, at_end}
use Rattle.table.proofs.Told.{room, table_few, width_most, long, not_long, some_large, none_large, counted_table}
use Rattle.table.proofs.table_refusal.Goals as goal

-- what accepted widths give, and what the calls and comparisons tell
ruleset widths = (width_most, room, table_few)

ruleset tests = (told, le_of_lt, not-true, not-false, long, not_long, some_large, none_large)

pub returns-then-outside : goal.returns-then-outside
returns-then-outside c = search (at_3, tests)

pub returns-then-outside-2 : goal.returns-then-outside-2
returns-then-outside-2 c = search (at_4, tests)

pub power-requires : goal.power-requires
power-requires c = search widths

pub returns-then-table-power : goal.returns-then-table-power
returns-then-table-power c = search (at_5, tests)

pub tally-joined-requires : goal.tally-joined-requires
tally-joined-requires c = search widths

pub power-requires-2 : goal.power-requires-2
power-requires-2 c = search widths

pub returns-then-power-joined : goal.returns-then-power-joined
returns-then-power-joined c = search (at_6, tests)

pub is_fit-requires : goal.is_fit-requires
is_fit-requires c =
    counted_table c.tally-joined.ensures _ _ _ _ _ _ c.outside.ensures c.if-outside.false c.outside-2.ensures c.if-outside-2.false
    c.power.ensures c.if-table-power.false c.power-2.ensures c.if-power-joined.false

pub returns-then-not-is_fit : goal.returns-then-not-is_fit
returns-then-not-is_fit c = search (at_7, tests)

pub returns : goal.returns
returns c = search (at_end, tests)
