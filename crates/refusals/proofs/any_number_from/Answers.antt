-- `refusals::any_number_from` meets its contract.
use mathlib.Core.Path.{◌∙◌}
use borrow.Author.Tests.{tests}
use lib.Dec.{leb}
use Rattle.std.proofs.Common.{rules}
use Rattle.std.proofs.lemmas.Iterator.{YieldsList-from_slice}
use Rattle.std.proofs.lemmas.Iterator.Search.{any_from_yields_List}
use Rattle.refusals.proofs.Tests.{any_found}
use Rattle.refusals.proofs.any_number_from.Goals as goal

pub returns : goal.returns
returns g c =
    let told = any_from_yields_List (λ x. leb c.args.least (g.T.Number.value x)) _ _ _ c.any.ensures.ran
    (YieldsList-from_slice c.args.numbers.now cc) (λ x b q k. search (rules, tests)) in
    told ∙ any_found c.args.least g.T.Number.value c.args.numbers.now
