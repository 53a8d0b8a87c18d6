-- `field::spaces` meets its contract.
use Rattle.std.proofs.Common.{◌==◌, rules, tests}
use Rattle.std.proofs.lemmas.Iterator.{YieldsList-from_slice}
use Rattle.std.proofs.lemmas.Iterator.Consumers.{count_from_yields_List, YieldsList-at}
use Rattle.std.proofs.lemmas.Iterator.Search.{YieldsList-from_take_while}
use Rattle.field.proofs.Reading.{spaces_counted}
use Rattle.field.proofs.spaces.Goals as goal

pub returns : goal.returns
returns c =
    spaces_counted c.args.bytes.now
    (count_from_yields_List c.take_while.result _ c.count.ensures.ran
    (YieldsList-from_take_while _ (λ byte. byte == 32)
    (YieldsList-at c.take_while.ensures.source (YieldsList-from_slice c.args.bytes.now (cc)))
    c.take_while.ensures.closure c.take_while.ensures.done (λ x b q k. search (rules, tests))))
