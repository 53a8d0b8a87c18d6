-- `log_entries::entry` meets its contract: the value does not reach the kind's bits.
use mathlib.Core.Path.{◌∙◌, ap}
use native.Mathlib.Omega.{arith}
use lib.Bits.{bit_or, or_shifted}
use lib.Pow.{shl_exact}
use Rattle.lookup.specs.Entry.{entry}
use Rattle.log_entries.proofs.entry.Goals as goal

pub returns : goal.returns
unfolding entry
returns c =
    ap (λ high. bit_or high c.args.value) (shl_exact 8 16 32 c.ranges.kind.fits (omega arith))
    ∙ or_shifted c.args.kind 16 c.args.value c.ranges.value.fits
