-- What is printed is what was read.
use Rattle.std.proofs.Common.{sym}
use Rattle.console.proofs.answer.Goals as goal

pub returns : goal.returns
returns g c =
    let printed = c.write_print.ensures in
    let taken = rw (sym printed.4) at c.read_full-got.ensures.bytes in
    (printed.0, printed.1, printed.2, printed.3, taken, printed.5, printed.6)
