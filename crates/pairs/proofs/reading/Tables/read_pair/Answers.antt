-- The pair: both walks lead home, the first with the target's marks, the second with those that the first left.
use Rattle.std.proofs.Common.{sym, ap, ◌∙◌}
use Rattle.pairs.specs.Reading.{target_marks, first_walk}
use Rattle.pairs.proofs.Homes.{pair_is, first_home, second_home}
use Rattle.pairs.proofs.reading.Tables.read_pair.Goals as goal

pub walk_back-first-requires : goal.walk_back-first-requires
walk_back-first-requires g c =
    let tree = c.args.self.now.tree in
    let n = g.N.Network.meaning tree.network.now in
    record {
      sizes = (c.args.self.now.entry_room, c.requires.routes.0);
      entry = c.args.self.now.entry_told;
      home = (target_marks g.C.Cost.ops n tree.root c.args.target, (c.mark_turns.ensures.set, first_home g.met.C.Cost.lawful n (g.met.N.Network.sound tree.network.now) tree.root tree.root_stands c.args.target c.requires.other c.requires.target));
    }

pub walk_back-second-requires : goal.walk_back-second-requires
walk_back-second-requires g c =
    let k = g.C.Cost.ops in
    let tree = c.args.self.now.tree in
    let n = g.N.Network.meaning tree.network.now in
    record {
      sizes = (c.args.self.now.entry_room, c.requires.routes.1);
      entry = c.args.self.now.entry_told;
      home = ((first_walk k n tree.root c.args.target).1, (c.walk_back-first.ensures.left (target_marks k n tree.root c.args.target) c.mark_turns.ensures.set, second_home g.met.C.Cost.lawful n (g.met.N.Network.sound tree.network.now) tree.root tree.root_stands c.args.target c.requires.other c.requires.target));
    }

pub returns : goal.returns
returns g c =
    let k = g.C.Cost.ops in
    let tree = c.args.self.now.tree in
    let n = g.N.Network.meaning tree.network.now in
    let marks = target_marks k n tree.root c.args.target in
    let left = c.walk_back-first.ensures.left marks c.mark_turns.ensures.set in
    let is = pair_is k n tree.root c.args.target in
    record {
      one = c.walk_back-first.ensures.route marks c.mark_turns.ensures.set ∙ sym (ap (λ p. p.0) is);
      two = c.walk_back-second.ensures.route (first_walk k n tree.root c.args.target).1 left ∙ sym (ap (λ p. p.1) is);
      rest = (c.walk_back-first.ensures.rest, c.walk_back-second.ensures.rest);
      left = c.walk_back-second.ensures.left (first_walk k n tree.root c.args.target).1 left;
      room = c.walk_back-second.ensures.room ∙ c.walk_back-first.ensures.room ∙ c.mark_turns.ensures.room;
    }
