-- What both routes gave back is read off what the pile shows.
use Rattle.std.proofs.Common.{◌-◌, ◌++◌, ap, ◌∙◌}
use Rattle.costs.specs.Counting.{occurs}
use Rattle.layers.specs.Shown.{marks, amounts}
use Rattle.route_links.specs.Along.{given_along}
use Rattle.piles.specs.Piles.{piled}
use Rattle.piles.proofs.Under.{pile_read_off, given_both}
use Rattle.piles.proofs.pairing.give_pair.Goals as goal

pub returns-clause-given : goal.returns-clause-given
returns-clause-given g c =
    let one = c.args.one.now in
    let two = c.args.two.now in
    let old = c.args.pile.now in
    let new = c.give_route-2.new.network in
    let first = c.give_route.ensures in
    let second = c.give_route-2.ensures in
    let network = g.met.N.Network in
    let shown = piled (marks old) (amounts old.below) (g.N.Network.meaning old.below.below) in
    pile_read_off old.change new.change old.below.change new.below.change (first.keeps.0 ∙ second.keeps.0) (first.keeps.1.0 ∙ second.keeps.1.0) (λ k t. t - occurs k (one ++ two)) (g.N.Network.meaning old.below.below) (g.N.Network.meaning new.below.below)
    (network.alike old.below.below new.below.below (network.transitive old.below.below c.give_route.new.network.below.below new.below.below first.keeps.1.1 second.keeps.1.1))
    (second.given ∙ ap (given_along two) first.given ∙ given_both one two shown)
