-- `calls::run_accepted` meets its contract.
use Rattle.calls.proofs.Replies.{logged_answered, logged_left, log_left}
use Rattle.calls.proofs.Replies.{logged_method, logged_bounded, logged_width, logged_table, logged_room, log_room, count_fits}
use Rattle.calls.proofs.run_accepted.Goals as goal

pub log_length-count-requires : goal.log_length-count-requires
log_length-count-requires c = search logged_width

pub run_logged-share-requires-clause-method_value : goal.run_logged-share-requires-clause-method_value
run_logged-share-requires-clause-method_value c = search logged_method

pub run_logged-share-requires-clause-bounded : goal.run_logged-share-requires-clause-bounded
run_logged-share-requires-clause-bounded c = search logged_bounded

pub run_logged-share-requires-clause-table_len : goal.run_logged-share-requires-clause-table_len
run_logged-share-requires-clause-table_len c = search logged_table

pub run_logged-share-requires-clause-n_in_bounds : goal.run_logged-share-requires-clause-n_in_bounds
run_logged-share-requires-clause-n_in_bounds c = search logged_room

pub run_logged-share-requires-clause-n_in_bounds_2 : goal.run_logged-share-requires-clause-n_in_bounds_2
run_logged-share-requires-clause-n_in_bounds_2 c = search log_room

pub overflow_cast-result-2 : goal.overflow_cast-result-2
overflow_cast-result-2 c = search count_fits

pub returns-clause-value : goal.returns-clause-value
returns-clause-value c = search logged_answered

pub returns-clause-scratch_after : goal.returns-clause-scratch_after
returns-clause-scratch_after c = search logged_left

pub returns-clause-log_after : goal.returns-clause-log_after
returns-clause-log_after c = search log_left
