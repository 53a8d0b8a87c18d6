-- `method2::logged::fill` meets its contract. The invariant: scratch and log are both those of as many turns.
use Rattle.log_entries.proofs.Logging.{Logging}
use Rattle.lookup.specs.Row.{row_entry}
use Rattle.lookup.specs.Method2.{pass_2}
use Rattle.method2.proofs.Filling.{Filling}
use Rattle.method2.proofs.logged.fill.Given as goal

abbrev pub invariant-loop-a : goal.invariant-loop-a
invariant-loop-a l =
    Filling l.lookup.case l.lookup.table.now l.initial.scratch l.scratch l.a × Logging (row_entry l.lookup.case l.lookup.table.now) pass_2 8 l.initial.log l.log l.a
