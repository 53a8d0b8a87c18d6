-- `method3::logged::select` meets its contract. The invariant: registers and log are both those of as many turns.
use Rattle.log_entries.proofs.Logging.{Logging}
use Rattle.lookup.specs.Row.{row_entry}
use Rattle.lookup.specs.Method3.{pass_3}
use Rattle.method3.proofs.Selecting.{Selecting}
use Rattle.method3.proofs.logged.select.Given as goal

abbrev pub invariant-loop-a : goal.invariant-loop-a
invariant-loop-a l =
    Selecting l.lookup.case l.lookup.table.now l.registers l.a × Logging (row_entry l.lookup.case l.lookup.table.now) pass_3 8 l.initial.log l.log l.a
