-- `case_sheet::leading` meets its contract.
use Rattle.case_sheet.proofs.Found.{found_turns, rest_within, stops_counted, stops_left, found_counted, found_left}
use Rattle.case_sheet.proofs.leading.Goals as goal

pub returns-in_default-clause-value : goal.returns-in_default-clause-value
returns-in_default-clause-value c = search stops_counted

pub returns-in_default-clause-numbers_after : goal.returns-in_default-clause-numbers_after
returns-in_default-clause-numbers_after c = search stops_left

pub slice_bounds-rest-count : goal.slice_bounds-rest-count
slice_bounds-rest-count c = search rest_within

pub slice_bounds-rest-start : goal.slice_bounds-rest-start
slice_bounds-rest-start c = search rest_within

pub loop-i-preserved : goal.loop-i-preserved
loop-i-preserved c = search found_turns

pub returns-clause-value : goal.returns-clause-value
returns-clause-value c = search found_counted

pub returns-clause-numbers_after : goal.returns-clause-numbers_after
returns-clause-numbers_after c = search found_left
