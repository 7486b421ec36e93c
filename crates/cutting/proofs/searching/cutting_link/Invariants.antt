-- What holds during the search: the links before are none.
use Rattle.std.proofs.Common.{◌≡◌, ◌≤◌, length}
use Rattle.least_pairs.specs.Views.{view}
use Rattle.cutting.specs.Cuts.{found_cut}
use Rattle.pairs.specs.Reading.{tree_route_to}
use Rattle.cutting.proofs.searching.cutting_link.Given as goal

abbrev pub invariant-search : goal.invariant-search
invariant-search g l = record {
  cut : found_cut g.C.Cost.ops (view g.C.Cost.ops (g.N.Network.meaning l.tree.network.now)) l.tree.root l.target l.links ≡ found_cut g.C.Cost.ops (view g.C.Cost.ops (g.N.Network.meaning l.tree.network.now)) l.tree.root l.target (tree_route_to g.C.Cost.ops (g.N.Network.meaning l.tree.network.now) l.tree.root l.target);
  room : (g.N.Network.meaning l.tree.network.now).sites ≤ l.tables.sites;
}

abbrev pub decreases-search : goal.decreases-search
decreases-search g l = length l.links
