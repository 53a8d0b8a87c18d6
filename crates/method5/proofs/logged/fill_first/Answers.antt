use borrow.Author.Rules.{rules}
use Rattle.log_entries.proofs.Logging.{logging_begins, rows_ends}
use Rattle.method5.proofs.Copying.{copying_begins, first_turns, first_ends}
use Rattle.method5.proofs.Turned.{first_copied, first_logged}
use Rattle.method5.proofs.logged.fill_first.Goals as goal

pub loop-a-init : goal.loop-a-init
loop-a-init c = (search copying_begins, search logging_begins)

-- the facts are named: a search for them takes too many steps
pub loop-a-preserved : goal.loop-a-preserved
loop-a-preserved c = (
  search (first_turns, first_copied),
  first_logged _ _ _ _ _ _ _ _ c.put_first_turn.ensures c.first_turn-values.ensures
      c.loop-a.invariant.1 (search rules) (search rules)
      c.power-turns.ensures,
)

pub returns-clause-scratch_after : goal.returns-clause-scratch_after
returns-clause-scratch_after c = search first_ends

pub returns-clause-log_after : goal.returns-clause-log_after
returns-clause-log_after c = search rows_ends
