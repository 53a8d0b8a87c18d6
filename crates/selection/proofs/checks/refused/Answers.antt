-- `selection::checks::refused` meets its contract.
use Rattle.refusals.proofs.Numbers.{not_zero, handed_on}
use Rattle.selection.proofs.Checking.{at_20, width_small, at_words, at_bits, at_masks}
use Rattle.selection.proofs.checks.refused.Goals as goal

pub returns-then-outside : goal.returns-then-outside
returns-then-outside c = search at_20

pub refused_words-requires : goal.refused_words-requires
refused_words-requires c = search width_small

pub returns-in_err-refused_words : goal.returns-in_err-refused_words
returns-in_err-refused_words c =
    rw (handed_on _ _ c.from_residual.ensures.1) (search (at_words, not_zero, c.in_err-refused_words.ensures))

pub returns-in_err-refused_bits : goal.returns-in_err-refused_bits
returns-in_err-refused_bits c =
    rw (handed_on _ _ c.from_residual-in_err-refused_bits.ensures.1)
    (search (at_bits, not_zero, c.in_ok-refused_words.ensures, c.in_err-refused_bits.ensures))

pub refused_masks-requires : goal.refused_masks-requires
refused_masks-requires c = search width_small

pub returns : goal.returns
returns c = search (at_masks, c.in_ok-refused_words.ensures, c.in_ok-refused_bits.ensures)
