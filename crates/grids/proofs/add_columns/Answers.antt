-- Each street across is sound and has room.
use Rattle.std.proofs.Common.{◌≡◌, ◌+◌, ◌*◌, ◌<◌, length, ap, ◌∙◌, arith}
use Rattle.networks.specs.Owning.{owned_meaning}
use Rattle.grids.proofs.Pairs.{longer, column_inside, few_streets, street_fits}
use Rattle.grids.proofs.add_columns.Goals as goal

pub add_street-requires : goal.add_street-requires
add_street-requires c =
    let plan = c.requires.plan in
    let p = c.args.plan in
    let m = c.loop-site.site in
    let before = (owned_meaning c.args.network.now).links in
    let sites = ap (λ n. n.sites) c.loop-site.invariant in
    let inside = column_inside plan m c.loop-site-test.true in
    let wide = plan.few_columns in
    let low : m < p.columns * p.rows = omega arith in
    let links : length (owned_meaning c.loop-site.network).links ≡ length before + 2 * m = ap (λ n. length n.links) c.loop-site.invariant ∙ longer (λ i. i) p.columns p.across p.channels before m in
    let few = few_streets plan in
    record {
      there = street_fits plan _ m (m + p.columns) sites low inside (λ e. omega arith);
      back = street_fits plan _ (m + p.columns) m sites inside low (λ e. omega arith);
      room = omega (arith, c.loop-site-test.true, c.requires.links, few.0, few.1);
    }
