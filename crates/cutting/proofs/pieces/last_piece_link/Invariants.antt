-- The climb stays in the last piece of the site.
use Rattle.std.proofs.Common.{◌<◌, length}
use Rattle.least_pairs.specs.Plans.{up}
use Rattle.pairs.specs.Reading.{first_of}
use Rattle.cutting.proofs.Topping.{Climbing}
use Rattle.cutting.proofs.pieces.last_piece_link.Given as goal

abbrev pub invariant-climb : goal.invariant-climb
invariant-climb g l = record {
  climbs : Climbing g.C.Cost.ops (g.N.Network.meaning l.tree.network.now) l.tree.root l.site l.top;
  low : l.top < (g.N.Network.meaning l.tree.network.now).sites;
  few : (g.N.Network.meaning l.tree.network.now).sites < 65536;
}

abbrev pub decreases-climb : goal.decreases-climb
decreases-climb g l = length (up (first_of g.C.Cost.ops (g.N.Network.meaning l.tree.network.now) l.tree.root) l.top)
