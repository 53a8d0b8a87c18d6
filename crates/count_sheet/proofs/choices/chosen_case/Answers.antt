-- `count_sheet::choices::chosen_case` meets its contract.
use borrow.Author.Rules.{rules}
use Rattle.bits.specs.Xor.{◌⊕◌}
use Rattle.counting.specs.Numbered.{choice_of}
use Rattle.secrecy.specs.Count.{chosen_case}
use Rattle.count_sheet.proofs.choices.chosen_case.Goals as goal

pub returns : goal.returns
unfolding chosen_case ◌⊕◌ choice_of
returns c = search rules
