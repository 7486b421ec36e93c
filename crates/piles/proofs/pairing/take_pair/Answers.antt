-- The second route is usable still, and what both took is read off what the pile shows.
use Rattle.std.proofs.Common.{◌+◌, ◌++◌, ap, ◌∙◌, arith}
use Rattle.costs.specs.Counting.{occurs}
use Rattle.networks.specs.Meaning.{link_at, usable}
use Rattle.layers.specs.Shown.{marks, amounts}
use Rattle.route_links.specs.Along.{taken_along}
use Rattle.route_links.proofs.Channelled.{still_usable}
use Rattle.piles.specs.Piles.{piled}
use Rattle.piles.proofs.Under.{pile_read_off, taken_both}
use Rattle.piles.proofs.pairing.take_pair.Goals as goal

pub take_route-requires-2-clause-usable : goal.take_route-requires-2-clause-usable
take_route-requires-2-clause-usable g c k stands =
    let old = c.args.pile.now in
    let shown = piled (marks old) (amounts old.below) (g.N.Network.meaning old.below.below) in
    ap (λ n. usable (link_at n k)) c.take_route.ensures.taken
    ∙ still_usable c.args.one.now shown k (c.requires.usable k (omega (arith, stands))) (omega (arith, stands, c.requires.once k))

pub returns-clause-taken : goal.returns-clause-taken
returns-clause-taken g c =
    let one = c.args.one.now in
    let two = c.args.two.now in
    let old = c.args.pile.now in
    let new = c.take_route-2.new.network in
    let first = c.take_route.ensures in
    let second = c.take_route-2.ensures in
    let network = g.met.N.Network in
    let shown = piled (marks old) (amounts old.below) (g.N.Network.meaning old.below.below) in
    pile_read_off old.change new.change old.below.change new.below.change (first.keeps.0 ∙ second.keeps.0) (first.keeps.1.0 ∙ second.keeps.1.0) (λ k t. t + occurs k (one ++ two)) (g.N.Network.meaning old.below.below) (g.N.Network.meaning new.below.below)
    (network.alike old.below.below new.below.below (network.transitive old.below.below c.take_route.new.network.below.below new.below.below first.keeps.1.1 second.keeps.1.1))
    (second.taken ∙ ap (taken_along two) first.taken ∙ taken_both one two shown)
