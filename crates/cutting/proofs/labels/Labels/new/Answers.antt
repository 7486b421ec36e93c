-- What the tables of both runs tell.
use Rattle.std.proofs.Common.{arith}
use Rattle.pairs.specs.Reading.{first_of, second_of}
use Rattle.pairs.proofs.Held.{tells_links, tells_turns}
use Rattle.cutting.proofs.labels.Labels.new.Goals as goal

pub invariant_of-tree : goal.invariant_of-tree
invariant_of-tree g c =
    let n = g.N.Network.meaning c.args.network.now in
    let first = c.args.first.now in
    record {
      root_stands = c.requires.root;
      room = omega (arith, c.requires.room.0, first.all_links);
      told = tells_links g.C.Cost.ops n.sites first.costs.now first.links.now first.turns.now (first_of g.C.Cost.ops n c.args.root).labels c.requires.first;
    }

pub invariant_of-found : goal.invariant_of-found
invariant_of-found g c =
    let k = g.C.Cost.ops in
    let n = g.N.Network.meaning c.args.network.now in
    let second = c.args.second.now in
    let labels = (second_of k n c.args.root).labels in
    record {
      entry_room = omega (arith, c.requires.room.1, second.all_links);
      turns_room = omega (arith, c.requires.room.1, second.all_turns);
      entry_told = tells_links k n.sites second.costs.now second.links.now second.turns.now labels c.requires.second;
      turns_told = tells_turns k n.sites second.costs.now second.links.now second.turns.now labels c.requires.second;
    }
