-- The climb goes up the tree links and ends below a site with a label.
use Rattle.std.proofs.Common.{◌≡◌, get_or, arith}
use Rattle.pairs.specs.Reading.{second_of}
use Rattle.cutting.proofs.Passing.{read_at}
use Rattle.cutting.proofs.Topping.{climbing_none, top_low, link_low, above_low, climbing_more, fewer, climbed}
use Rattle.cutting.proofs.pieces.last_piece_link.Goals as goal

pub climb-init : goal.climb-init
climb-init g c =
    let tree = c.args.tree.now in
    let n = g.N.Network.meaning tree.network.now in
    let sound = g.met.N.Network.sound tree.network.now in
    let begins = climbing_none g.met.C.Cost.lawful n sound tree.root tree.root_stands c.args.site c.requires.site.0 c.requires.site.1 in
    record { climbs = begins; low = top_low g.met.C.Cost.lawful n sound tree.root tree.root_stands c.args.site c.args.site begins; few = omega (arith, sound.most_sites) }

pub start_of-above-requires : goal.start_of-above-requires
start_of-above-requires g c =
    let tree = c.args.tree.now in
    link_low g.met.C.Cost.lawful (g.N.Network.meaning tree.network.now) (g.met.N.Network.sound tree.network.now) tree.root tree.root_stands c.args.site c.climb.top c.climb.invariant.climbs tree.links.now tree.room tree.told

pub bounds-entry-above : goal.bounds-entry-above
bounds-entry-above g c =
    let tree = c.args.tree.now in
    omega (
      arith,
      above_low g.met.C.Cost.lawful (g.N.Network.meaning tree.network.now) (g.met.N.Network.sound tree.network.now) tree.root tree.root_stands c.args.site c.climb.top c.climb.invariant.climbs tree.links.now tree.room tree.told c.start_of-above.result c.start_of-above.ensures,
      c.requires.room,
    )

pub climb-smaller : goal.climb-smaller
climb-smaller g c =
    let tree = c.args.tree.now in
    fewer g.met.C.Cost.lawful (g.N.Network.meaning tree.network.now) (g.met.N.Network.sound tree.network.now) tree.root tree.root_stands c.args.site c.climb.top c.climb.invariant.climbs tree.links.now tree.room tree.told c.start_of-above.result c.start_of-above.ensures

pub climb-preserved : goal.climb-preserved
climb-preserved g c =
    let k = g.C.Cost.ops in
    let tree = c.args.tree.now in
    let n = g.N.Network.meaning tree.network.now in
    let sound = g.met.N.Network.sound tree.network.now in
    let above = c.start_of-above.result in
    let low = above_low g.met.C.Cost.lawful n sound tree.root tree.root_stands c.args.site c.climb.top c.climb.invariant.climbs tree.links.now tree.room tree.told above c.start_of-above.ensures in
    let is : get_or c.args.entry.now above 0 ≡ 65535 = omega arith in
    let read = read_at k n.sites c.requires.entry.0 c.args.entry.now c.requires.entry.1 (second_of k n tree.root).labels c.requires.room c.requires.entry.2 above low in
    record {
      climbs = climbing_more g.met.C.Cost.lawful n sound tree.root tree.root_stands c.args.site c.climb.top c.climb.invariant.climbs tree.links.now tree.room tree.told above c.start_of-above.ensures (read.none is);
      low = low;
      few = c.climb.invariant.few;
    }

pub returns : goal.returns
returns g c =
    let k = g.C.Cost.ops in
    let tree = c.args.tree.now in
    let n = g.N.Network.meaning tree.network.now in
    let sound = g.met.N.Network.sound tree.network.now in
    let above = c.start_of-above.result in
    let low = above_low g.met.C.Cost.lawful n sound tree.root tree.root_stands c.args.site c.climb.top c.climb.invariant.climbs tree.links.now tree.room tree.told above c.start_of-above.ensures in
    let read = read_at k n.sites c.requires.entry.0 c.args.entry.now c.requires.entry.1 (second_of k n tree.root).labels c.requires.room c.requires.entry.2 above low in
    climbed g.met.C.Cost.lawful n sound tree.root tree.root_stands c.args.site c.climb.top c.climb.invariant.climbs tree.links.now tree.room tree.told above c.start_of-above.ensures (read.some (λ e. omega (arith, e)))
