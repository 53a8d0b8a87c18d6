-- The third demand of a chain holds.
use Rattle.probing.proofs.Sound.{alike}
use Rattle.table.proofs.Fit.{fit_below}
use Rattle.table.proofs.Even.{fit_even}
use Rattle.lookup.specs.Methods.{method_of}
use Rattle.lookup.proofs.Methods.{of_each}
use Rattle.chain_secrecy.specs.Expressions.{chain_system, chain_setting}
use Rattle.chain_secrecy.specs.Promises.{ChainTellsNothing, EvenChainTellsNothing}
use Rattle.chain_secrecy.proofs.Fine.{paired_rows, pairings, any_two}
use Rattle.chain_secrecy.proofs.Observed.{turns, assumed, counts_equal}

pub even_chain_tells_nothing : EvenChainTellsNothing
unfolding EvenChainTellsNothing
even_chain_tells_nothing S T k x y w w' i j u v even small even' small' paired hx hy =
    let known_first = paired.0 in
    let p = of_each k.second_method (of_each k.first_method pairings known_first) paired.1 in
    let f = method_of k.first_method in
    let g = method_of k.second_method in
    counts_equal S T k p known_first small x y w w' i j u v hx hy
    (alike (chain_system f g) (chain_setting S T k) (assumed S T k f g x y even small even' small' hx hy) _ _
    (any_two (turns k) (paired_rows p.one p.two) (chain_system f g) p.fine w w' i j))

pub chain_tells_nothing : ChainTellsNothing
unfolding ChainTellsNothing EvenChainTellsNothing
chain_tells_nothing S T k x y w w' i j u v fitness fitness' =
    even_chain_tells_nothing S T k x y w w' i j u v (fit_even k.input k.between S fitness)
    (fit_below k.input k.between S fitness) (fit_even k.between k.output T fitness')
    (fit_below k.between k.output T fitness')
