-- The walk back: each step goes over a usable link, and fewer are written than there are sites.
use Rattle.std.proofs.Common.{◌+◌, ◌≤◌, length, set, refl, sym, ◌∙◌, subst, arith}
use Rattle.pairs.proofs.Homeward.{Back, back_none, back_more, link_low, arrives, rest_kept}
use Rattle.pairs.proofs.walking.walk_over.Goals as goal

pub loop-site-init : goal.loop-site-init
loop-site-init g c =
    let tree = c.args.tree.now in
    let n = g.N.Network.meaning tree.network.now in
    record {
      back = back_none g.met.C.Cost.lawful n (g.met.N.Network.sound tree.network.now) tree.root tree.root_stands c.args.entry.now (g.M.Marks.marked c.args.marks.now) c.args.target c.requires.home c.args.route.now;
      rooms = refl;
    }

pub start_of-site-requires : goal.start_of-site-requires
start_of-site-requires g c =
    let tree = c.args.tree.now in
    let n = g.N.Network.meaning tree.network.now in
    link_low g.met.C.Cost.lawful n (g.met.N.Network.sound tree.network.now) tree.root tree.root_stands c.args.entry.now (g.M.Marks.marked c.args.marks.now) c.args.target c.requires.home
    c.loop-site.site (g.M.Marks.marked c.loop-site.marks) c.args.route.now c.loop-site.route c.loop-site.count c.loop-site.invariant.back c.loop-site-test.true tree.links.now tree.told c.link_back-link.result c.link_back-link.ensures.link

pub loop-site-preserved : goal.loop-site-preserved
loop-site-preserved g c =
    let tree = c.args.tree.now in
    let n = g.N.Network.meaning tree.network.now in
    let from = g.M.Marks.marked c.args.marks.now in
    let after = g.M.Marks.marked c.link_back-link.new.marks in
    let long : n.sites ≤ length c.loop-site.route = omega (arith, c.requires.room, c.loop-site.auto.route) in
    record {
      back = subst (λ w. Back g.C.Cost.ops n tree.root c.args.entry.now from c.args.target w after c.args.route.now (set c.loop-site.route c.loop-site.count c.link_back-link.result) (c.loop-site.count + 1)) (sym c.start_of-site.ensures)
          (back_more g.met.C.Cost.lawful n (g.met.N.Network.sound tree.network.now) tree.root tree.root_stands c.args.entry.now from c.args.target c.requires.home
          c.loop-site.site (g.M.Marks.marked c.loop-site.marks) c.args.route.now c.loop-site.route c.loop-site.count c.loop-site.invariant.back c.loop-site-test.true tree.links.now tree.told c.link_back-link.result c.link_back-link.ensures.link after c.link_back-link.ensures.set long);
      rooms = c.link_back-link.ensures.room ∙ c.loop-site.invariant.rooms;
    }

pub returns : goal.returns
returns g c =
    let tree = c.args.tree.now in
    let n = g.N.Network.meaning tree.network.now in
    let all = arrives g.met.C.Cost.lawful n (g.met.N.Network.sound tree.network.now) tree.root tree.root_stands c.args.entry.now (g.M.Marks.marked c.args.marks.now) c.args.target
    c.loop-site.site (g.M.Marks.marked c.loop-site.marks) c.args.route.now c.loop-site.route c.turn_over.new.route c.loop-site.count c.loop-site.invariant.back c.loop-site-test.false c.turn_over.ensures.front in
    record {
      route = λ second ms home. (all second ms home).0;
      rest = rest_kept g.C.Cost.ops n tree.root c.args.entry.now (g.M.Marks.marked c.args.marks.now) c.args.target c.loop-site.site (g.M.Marks.marked c.loop-site.marks) c.args.route.now c.loop-site.route c.turn_over.new.route c.loop-site.count c.loop-site.invariant.back c.turn_over.ensures.rest;
      left = λ second ms home. (all second ms home).1;
      marks = c.loop-site.invariant.rooms;
    }
