-- The links so far are taken, and the rest of the network is kept.
use Rattle.std.proofs.Common.{◌≡◌, take}
use Rattle.route_links.specs.Along.{taken_along}
use Rattle.route_links.proofs.channels.take_route.Given as goal

abbrev pub invariant-loop-link : goal.invariant-loop-link
invariant-loop-link g l =
    (g.N.Network.meaning l.network ≡ taken_along (take l.link-index l.route) (g.N.Network.meaning l.initial.network))
    × g.N.Network.kept l.initial.network l.network
