-- `field::number` meets its contract.
use Rattle.std.proofs.Common.{rules}
use Rattle.field.proofs.Reading.{no_digits, one_digit, leading_zero, more_digits}
use Rattle.field.proofs.number.Goals.{else-bytes-gt1-via-then-bytes-gt1+else-bytes-eq48, else-bytes-gt1-via-else-bytes-gt1}
use Rattle.field.proofs.number.Goals as goal

pub returns-then-is_empty : goal.returns-then-is_empty
returns-then-is_empty c = search (rules, no_digits)

pub returns-then-bytes-eq48 : goal.returns-then-bytes-eq48
returns-then-bytes-eq48 c = search leading_zero

pub returns : goal.returns
returns c =
    elim c.else-bytes-gt1.branch [
      | else-bytes-gt1-via-then-bytes-gt1+else-bytes-eq48 w ↦ search (rules, more_digits)
      | else-bytes-gt1-via-else-bytes-gt1 w ↦ search (rules, one_digit)
    ]
