-- `page_print::print` meets its contract.
use Rattle.sheet_call.proofs.Replies.{entries_lent, count_within, few_lent}
use Rattle.sheet_call.proofs.Printed.{refused_long, refused_left, accepted_long, accepted_left}
use Rattle.page_print.specs.Print.{page}
use Rattle.page_print.proofs.Prints.{page_room, kinds_lent, paged}
use Rattle.page_print.proofs.print.Goals as goal

pub slice_bounds-log-end : goal.slice_bounds-log-end
slice_bounds-log-end c = search (count_within, c.in-Ok.ensures.value)

pub slice_bounds-put_page-end-in-Ok : goal.slice_bounds-put_page-end-in-Ok
slice_bounds-put_page-end-in-Ok c = search (entries_lent, c.in-Ok.ensures.value)

pub put_page-requires-clause-log_len_bound : goal.put_page-requires-clause-log_len_bound
put_page-requires-clause-log_len_bound c = (search (few_lent, c.in-Ok.ensures.value), search (page_room, c.in-Ok.ensures.value))

pub put_page-requires-clause-log_value : goal.put_page-requires-clause-log_value
put_page-requires-clause-log_value c = search (kinds_lent, c.in-Ok.ensures.value)

pub returns-in-Ok-clause-value : goal.returns-in-Ok-clause-value
unfolding page
returns-in-Ok-clause-value c = search (accepted_long, paged, c.in-Ok.ensures.value)

pub returns-in-Ok-clause-output_after : goal.returns-in-Ok-clause-output_after
unfolding page
returns-in-Ok-clause-output_after c = search (accepted_left, paged, c.in-Ok.ensures.value)

pub returns-in-Err-clause-value : goal.returns-in-Err-clause-value
unfolding page
returns-in-Err-clause-value c = search (refused_long, c.in-Err.ensures.value)

pub returns-in-Err-clause-output_after : goal.returns-in-Err-clause-output_after
unfolding page
returns-in-Err-clause-output_after c = search (refused_left, c.in-Err.ensures.value)
