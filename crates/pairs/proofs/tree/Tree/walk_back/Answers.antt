-- The walk back with the entry links of the second run.
use Rattle.std.proofs.Common.{ℕ, List, take}
use Rattle.pairs.specs.Tables.{Marked}
use Rattle.pairs.specs.Reading.{second_of}
use Rattle.pairs.proofs.Homeward.{same_walk, returning}
use Rattle.pairs.proofs.tree.Tree.walk_back.Goals as goal

pub walk_over-requires : goal.walk_over-requires
walk_over-requires g c =
    let tree = c.args.self.now in
    let n = g.N.Network.meaning tree.network.now in
    let home = c.requires.home in
    record {
      entry = c.requires.sizes.0;
      room = c.requires.sizes.1;
      home = (second_of g.C.Cost.ops n tree.root, (home.0, returning g.C.Cost.ops n tree.root c.args.entry.now (g.M.Marks.marked c.args.marks.now) c.args.target home.0 c.requires.entry home.1.0 home.1.1));
    }

pub returns : goal.returns
returns g c =
    let k = g.C.Cost.ops in
    let tree = c.args.self.now in
    let n = g.N.Network.meaning tree.network.now in
    let root = tree.root in
    let from = g.M.Marks.marked c.args.marks.now in
    let home = c.requires.home in
    let is = returning k n root c.args.entry.now from c.args.target home.0 c.requires.entry home.1.0 home.1.1 in
    let walk = c.walk_over in
    let all = λ (ms : List ℕ) (marks : Marked from ms). same_walk k n root c.args.target from (g.M.Marks.marked walk.new.marks) (take walk.result walk.new.route) home.0 ms home.1.0 marks (walk.ensures.route (second_of k n root) home.0 is, walk.ensures.left (second_of k n root) home.0 is) in
    record {
      route = λ ms marks. (all ms marks).0;
      rest = walk.ensures.rest;
      left = λ ms marks. (all ms marks).1;
      room = walk.ensures.marks;
    }
