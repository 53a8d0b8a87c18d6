-- `sheet::print` meets its contract.
use Rattle.case_sheet.specs.Edition.{six_columns}
use Rattle.sheet_call.proofs.Replies.{entries_lent, count_within, few_lent}
use Rattle.sheet_call.proofs.Printed.{refused_long, refused_left, accepted_long, accepted_left}
use Rattle.sheet.specs.Print.{print}
use Rattle.sheet.proofs.Prints.{printed, answer_room, answered}
use Rattle.sheet.proofs.print.Goals as goal

pub slice_bounds-log-end : goal.slice_bounds-log-end
slice_bounds-log-end c = search (count_within, c.in-Ok.ensures.value)

pub slice_bounds-entries-end : goal.slice_bounds-entries-end
slice_bounds-entries-end c = search (entries_lent, c.in-Ok.ensures.value)

pub put_answer-requires : goal.put_answer-requires
put_answer-requires c = (search (few_lent, c.in-Ok.ensures.value), search (answer_room, c.in-Ok.ensures.value))

pub returns-in-Ok-clause-value : goal.returns-in-Ok-clause-value
unfolding print
returns-in-Ok-clause-value c =
    rw (printed six_columns 6 c.args.input.now) (search (accepted_long, answered, c.in-Ok.ensures.value))

pub returns-in-Ok-clause-output_after : goal.returns-in-Ok-clause-output_after
unfolding print
returns-in-Ok-clause-output_after c =
    rw (printed six_columns 6 c.args.input.now) (search (accepted_left, answered, c.in-Ok.ensures.value))

pub returns-in-Err-clause-value : goal.returns-in-Err-clause-value
unfolding print
returns-in-Err-clause-value c =
    rw (printed six_columns 6 c.args.input.now) (search (refused_long, c.in-Err.ensures.value))

pub returns-in-Err-clause-output_after : goal.returns-in-Err-clause-output_after
unfolding print
returns-in-Err-clause-output_after c =
    rw (printed six_columns 6 c.args.input.now) (search (refused_left, c.in-Err.ensures.value))
