-- `log_page::put_page` meets its contract.
use borrow.Author.Rules.{rules}
use Rattle.log_page.proofs.Pages.{kinds_room, total_room, total_fits, page_long, page_left}
use Rattle.log_page.proofs.put_page.Goals as goal

pub put_kind_lines-total-requires-clause-log_len_bound : goal.put_kind_lines-total-requires-clause-log_len_bound
put_kind_lines-total-requires-clause-log_len_bound c = (search rules, search kinds_room)

pub put_total-requires : goal.put_total-requires
put_total-requires c = search total_room

pub overflow_add-result : goal.overflow_add-result
overflow_add-result c = search total_fits

pub returns-clause-value : goal.returns-clause-value
returns-clause-value c = search page_long

pub returns-clause-output_after : goal.returns-clause-output_after
returns-clause-output_after c = search page_left
