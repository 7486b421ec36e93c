-- The tree route is the walk back on which no site is marked.
use Rattle.std.proofs.Common.{ℕ, [], ◌∙◌, ap}
use Rattle.marks.specs.Sets.{in_bytes}
use Rattle.pairs.specs.Reading.{first_of}
use Rattle.pairs.proofs.Both.{labelled_settled, first_ran}
use Rattle.pairs.proofs.Descending.{bare_walk, bare_home}
use Rattle.pairs.proofs.tree.Tree.tree_route.Goals as goal

pub walk_over-requires : goal.walk_over-requires
walk_over-requires g c =
    let tree = c.args.self.now in
    let n = g.N.Network.meaning tree.network.now in
    let sound = g.met.N.Network.sound tree.network.now in
    let none = λ (w : ℕ). ap (λ bytes. in_bytes bytes w) c.new-marks.ensures in
    let reached = labelled_settled (first_ran g.met.C.Cost.lawful n sound tree.root tree.root_stands) c.args.target c.requires.target in
    record {
      entry = tree.room;
      room = c.requires.room;
      home = (first_of g.C.Cost.ops n tree.root, ([], bare_home g.met.C.Cost.lawful n sound tree.root tree.root_stands _ none tree.links.now tree.told c.args.target reached));
    }

pub returns : goal.returns
returns g c =
    let tree = c.args.self.now in
    let n = g.N.Network.meaning tree.network.now in
    let sound = g.met.N.Network.sound tree.network.now in
    let none = λ (w : ℕ). ap (λ bytes. in_bytes bytes w) c.new-marks.ensures in
    let reached = labelled_settled (first_ran g.met.C.Cost.lawful n sound tree.root tree.root_stands) c.args.target c.requires.target in
    record {
      route = c.walk_over.ensures.route (first_of g.C.Cost.ops n tree.root) [] (bare_home g.met.C.Cost.lawful n sound tree.root tree.root_stands _ none tree.links.now tree.told c.args.target reached)
          ∙ bare_walk g.met.C.Cost.lawful n sound tree.root tree.root_stands c.args.target reached;
      rest = c.walk_over.ensures.rest;
    }
