-- The lengths of the links so far are added up.
use Rattle.std.proofs.Common.{◌≡◌, take}
use Rattle.route_links.specs.Along.{metres_along, poles_along}
use Rattle.route_links.proofs.lengths.add_up.Given as goal

abbrev pub invariant-loop-link : goal.invariant-loop-link
invariant-loop-link g l =
    (l.metres ≡ metres_along (g.N.Network.meaning l.network) (take l.link-index l.route))
    × (l.poles ≡ poles_along (g.N.Network.meaning l.network) (take l.link-index l.route))
