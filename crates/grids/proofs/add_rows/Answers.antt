-- Each street along a row is sound and has room.
use Rattle.std.proofs.Common.{◌≡◌, ◌+◌, ◌*◌, ◌<◌, length, ap, ◌∙◌, arith}
use Rattle.networks.specs.Owning.{owned_meaning}
use Rattle.grids.specs.Streets.{row_site}
use Rattle.grids.proofs.Pairs.{two_ways_length, row_inside, few_streets, street_fits}
use Rattle.grids.proofs.add_rows.Goals as goal

pub add_street-requires : goal.add_street-requires
add_street-requires c =
    let plan = c.requires.plan in
    let p = c.args.plan in
    let m = c.loop-m.m in
    let site = row_site p.columns m in
    let sites = ap (λ n. n.sites) c.loop-m.invariant in
    let inside = row_inside plan m c.loop-m-test.true in
    let low : site < p.columns * p.rows = omega arith in
    let links : length (owned_meaning c.loop-m.network).links ≡ 2 * m = ap (λ n. length n.links) c.loop-m.invariant ∙ two_ways_length (row_site p.columns) 1 p.along p.channels m in
    let few = (few_streets plan).0 in
    record {
      there = street_fits plan _ site (site + 1) sites low inside (λ e. omega arith);
      back = street_fits plan _ (site + 1) site sites inside low (λ e. omega arith);
      room = omega (arith, c.loop-m-test.true);
    }
