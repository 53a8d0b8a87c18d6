-- `field::read` meets its contract.
use Rattle.field.proofs.Reading.{other_width, start_within, reading_whole}
use Rattle.field.proofs.read.Goals as goal

pub returns-then-bytes-columns : goal.returns-then-bytes-columns
returns-then-bytes-columns c = search other_width

pub slice_bounds-number-count : goal.slice_bounds-number-count
slice_bounds-number-count c = search start_within

pub slice_bounds-number-start : goal.slice_bounds-number-start
slice_bounds-number-start c = search start_within

pub returns : goal.returns
returns c = search reading_whole
