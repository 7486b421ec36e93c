-- A link is offered exactly where it is considered.
use Rattle.std.proofs.Common.{arith}
use Rattle.stages.proofs.Considering.{struck_site, ends_inside, not_offered, is_offered}
use Rattle.stages.proofs.second.SecondStageStage.offer.Goals as goal

pub admits-requires : goal.admits-requires
admits-requires g c =
    let network = c.args.self.now.first.network.now in
    let n = g.N.Network.meaning network in
    let sound = g.met.N.Network.sound network in
    let laws = g.met.C.Cost.lawful in
    let ready = c.requires.stands.1 in
    let left = ready.first_left in
    let site = struck_site laws n sound left ready in
    let ends = ends_inside laws n sound c.args.link c.ends_of-start.result c.ends_of-start.ensures c.if-not-is_usable.ensures in
    record {
      tree = omega (arith, left.trees, ends.1);
      piece = (omega (arith, ready.pieces, site), (omega (arith, ready.pieces, ends.0), omega (arith, ready.pieces, ends.1)));
      part = (omega (arith, ready.parts, ends.0), omega (arith, ready.parts, ends.1));
    }

pub returns-then-not-admits : goal.returns-then-not-admits
returns-then-not-admits g c S ready =
    let network = c.args.self.now.first.network.now in
    not_offered g.met.C.Cost.lawful (g.N.Network.meaning network) (g.met.N.Network.sound network) ready c.args.link c.ends_of-start.result c.ends_of-start.ensures c.if-not-is_usable.ensures c.if-not-admits.ensures

pub reduced_cost-requires-clause-ends : goal.reduced_cost-requires-clause-ends
reduced_cost-requires-clause-ends g c =
    let network = c.args.self.now.first.network.now in
    let ends = ends_inside g.met.C.Cost.lawful (g.N.Network.meaning network) (g.met.N.Network.sound network) c.args.link c.ends_of-start.result c.ends_of-start.ensures c.if-not-is_usable.ensures in
    let distances = c.args.self.now.first.left.distances in
    (omega (arith, distances, ends.0), omega (arith, distances, ends.1))

pub returns : goal.returns
returns g c S ready =
    let network = c.args.self.now.first.network.now in
    is_offered g.met.C.Cost.lawful (g.N.Network.meaning network) (g.met.N.Network.sound network) ready c.args.link c.ends_of-start.result c.ends_of-start.ensures c.if-not-is_usable.ensures c.if-not-admits.ensures c.reduced_cost.result c.reduced_cost.ensures
