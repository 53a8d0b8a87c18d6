-- `method5::logged::fill_second` meets its contract. The invariant: scratch and log are both those of as many turns.
use Prim.Native.Nat.{◌+◌, ◌*◌, ◌^◌}
use Rattle.log_entries.proofs.Logging.{Logging}
use Rattle.lookup.specs.Row.{row_entry}
use Rattle.lookup.specs.Method5.{half_pass_5}
use Rattle.method5.proofs.Copying.{Second}
use Rattle.method5.proofs.logged.fill_second.Given as goal

abbrev pub invariant-loop-a : goal.invariant-loop-a
invariant-loop-a l =
    Second l.lookup.case l.initial.scratch l.scratch l.a × Logging (row_entry l.lookup.case l.initial.scratch) half_pass_5 (5 + 4 * 2 ^ l.lookup.case.n) l.initial.log l.log l.a
