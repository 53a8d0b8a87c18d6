-- `case_sheet::read_numbers` meets its contract.
use borrow.Author.Rules.{rules}
use Rattle.case_sheet.proofs.Sheets.{short_refused, short_table, numbers_left, few_entries, other_refused, table_left, lines_taken}
use Rattle.case_sheet.proofs.read_numbers.Goals as goal

pub returns-then-input-start-clause-value : goal.returns-then-input-start-clause-value
returns-then-input-start-clause-value c = search short_refused

pub returns-then-input-start-clause-numbers_after : goal.returns-then-input-start-clause-numbers_after
returns-then-input-start-clause-numbers_after c = search numbers_left

pub returns-then-input-start-clause-table_after : goal.returns-then-input-start-clause-table_after
returns-then-input-start-clause-table_after c = search short_table

pub complete-requires : goal.complete-requires
complete-requires c = (search rules, search rules, search rules, search few_entries)

pub returns-then-complete-clause-value : goal.returns-then-complete-clause-value
returns-then-complete-clause-value c = search lines_taken

pub returns-then-complete-clause-numbers_after : goal.returns-then-complete-clause-numbers_after
returns-then-complete-clause-numbers_after c = search numbers_left

pub returns-then-complete-clause-table_after : goal.returns-then-complete-clause-table_after
returns-then-complete-clause-table_after c = search table_left

pub returns-else-complete-clause-value : goal.returns-else-complete-clause-value
returns-else-complete-clause-value c = search other_refused

pub returns-else-complete-clause-numbers_after : goal.returns-else-complete-clause-numbers_after
returns-else-complete-clause-numbers_after c = search numbers_left

pub returns-else-complete-clause-table_after : goal.returns-else-complete-clause-table_after
returns-else-complete-clause-table_after c = search table_left
