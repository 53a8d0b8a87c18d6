-- `case_sheet::item` meets its contract.
use Rattle.case_sheet.proofs.Items.{short, alone, no_feed, ended, columns_lent, feed_within}
use Rattle.case_sheet.proofs.item.Goals.{else-line-via-then-line+else-bytes-columns-ne10, else-line-via-else-line}
use Rattle.case_sheet.proofs.item.Goals as goal

pub returns-then-bytes-size : goal.returns-then-bytes-size
returns-then-bytes-size c = search short

pub bounds-bytes-columns : goal.bounds-bytes-columns
bounds-bytes-columns c = search feed_within

pub returns-then-bytes-columns-ne10 : goal.returns-then-bytes-columns-ne10
returns-then-bytes-columns-ne10 c = search no_feed

pub slice_bounds-read-end : goal.slice_bounds-read-end
slice_bounds-read-end c = search columns_lent

pub returns : goal.returns
returns c =
    elim c.else-line.branch [
      | else-line-via-then-line+else-bytes-columns-ne10 w ↦ search ended
      | else-line-via-else-line w ↦ search alone
    ]
