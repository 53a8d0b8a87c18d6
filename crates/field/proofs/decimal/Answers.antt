use Rattle.field.proofs.Reading.{no_digit, too_large, one_read, all_read}
use Rattle.field.proofs.decimal.Goals as goal

pub returns-then-not-is_ascii_digit : goal.returns-then-not-is_ascii_digit
returns-then-not-is_ascii_digit c = search no_digit

pub returns-then-value-from : goal.returns-then-value-from
returns-then-value-from c = search too_large

pub loop-byte-preserved : goal.loop-byte-preserved
loop-byte-preserved c = search one_read

pub returns : goal.returns
returns c = search all_read
