-- The search goes along the tree route.
use Rattle.std.proofs.Common.{◌≤◌, length, arith, Some, None}
use Rattle.std.proofs.lemmas.Grind.{common_steps}
use Rattle.least_pairs.specs.Views.{view}
use Rattle.pairs.specs.Reading.{tree_route_to}
use Rattle.pairs.proofs.Both.{first_ran, labelled_settled}
use Rattle.pairs.proofs.Descending.{route_few}
use Rattle.cutting.proofs.Passing.{taken_low, cut_of_all, cut_link}
use Rattle.cutting.proofs.searching.cutting_link.Goals as goal

pub slice_bounds-links-end : goal.slice_bounds-links-end
slice_bounds-links-end g c =
    let tree = c.args.tree.now in
    let n = g.N.Network.meaning tree.network.now in
    let sound = g.met.N.Network.sound tree.network.now in
    let reached = labelled_settled (first_ran g.met.C.Cost.lawful n sound tree.root tree.root_stands) c.args.target c.requires.reached in
    let route = c.tree_route-count.new.route in
    let long : n.sites ≤ length route = omega (arith, c.requires.route, c.tree_route-count.auto.route) in
    omega (arith, long, taken_low c.tree_route-count.result n.sites route (tree_route_to g.C.Cost.ops n tree.root c.args.target) c.tree_route-count.ensures.route (route_few g.met.C.Cost.lawful n sound tree.root tree.root_stands c.args.target reached) long)

pub search-init : goal.search-init
search-init g c =
    let k = g.C.Cost.ops in
    let tree = c.args.tree.now in
    let n = g.N.Network.meaning tree.network.now in
    record {
      cut = cut_of_all k (view k n) tree.root c.args.target c.tree_route-count.result c.tree_route-count.new.route (tree_route_to k n tree.root c.args.target) c.tree_route-count.ensures.route;
      room = c.requires.room.0;
    }

pub returns-in_default-clause-link : goal.returns-in_default-clause-link
returns-in_default-clause-link g c =
    let k = g.C.Cost.ops in
    let tree = c.args.tree.now in
    let n = g.N.Network.meaning tree.network.now in
    cut_link k (view k n) tree.root c.args.target None (tree_route_to k n tree.root c.args.target) (grind (arith, common_steps))

pub returns-then-not-is_reached_without-clause-link : goal.returns-then-not-is_reached_without-clause-link
returns-then-not-is_reached_without-clause-link g c =
    let k = g.C.Cost.ops in
    let tree = c.args.tree.now in
    let n = g.N.Network.meaning tree.network.now in
    cut_link k (view k n) tree.root c.args.target (Some c.in-Some.link.now) (tree_route_to k n tree.root c.args.target) (grind (arith, common_steps))
