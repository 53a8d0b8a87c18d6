-- `method5::logged::fill_first` meets its contract. The invariant: scratch and log are both those of as many turns.
use Rattle.log_entries.proofs.Logging.{Logging}
use Rattle.lookup.specs.Row.{row_entry}
use Rattle.lookup.specs.Method5.{first_pass_5}
use Rattle.method5.proofs.Copying.{First}
use Rattle.method5.proofs.logged.fill_first.Given as goal

abbrev pub invariant-loop-a : goal.invariant-loop-a
invariant-loop-a l =
    First l.lookup.case l.lookup.table.now l.initial.scratch l.scratch l.a × Logging (row_entry l.lookup.case l.lookup.table.now) first_pass_5 5 l.initial.log l.log l.a
