-- Every number is within its limits, so the grid is made or memory is wanting.
use Rattle.std.proofs.Common.{tests, ◌-◌, ◌*◌, ◌++◌, length, sym, ap, ◌∙◌, arith}
use Rattle.networks.specs.Owning.{owned_meaning}
use Rattle.grids.specs.Streets.{net, two_ways, row_site}
use Rattle.grids.proofs.Pairs.{few_sites, two_ways_length}
use Rattle.grids.proofs.Whole.{plans, is_grid}
use Rattle.grids.proofs.street_grid.Goals as goal

pub overflow_mul-plan : goal.overflow_mul-plan
overflow_mul-plan c =
    let p = c.args.plan in
    let few = (few_sites (plans p.columns p.rows p.along p.across p.channels (sym c.if-not-is_within.ensures)).0).1 in
    record { fits = omega arith }

pub returns-in_err-network : goal.returns-in_err-network
returns-in_err-network c =
    let p = c.args.plan in
    let few = few_sites (plans p.columns p.rows p.along p.across p.channels (sym c.if-not-is_within.ensures)).0 in
    let least = few.0 in
    let most = few.1 in
    grind (arith, tests)

pub add_rows-requires-clause-plan : goal.add_rows-requires-clause-plan
add_rows-requires-clause-plan c =
    let p = c.args.plan in
    (plans p.columns p.rows p.along p.across p.channels (sym c.if-not-is_within.ensures)).0

pub add_columns-requires-clause-plan : goal.add_columns-requires-clause-plan
add_columns-requires-clause-plan c =
    let p = c.args.plan in
    (plans p.columns p.rows p.along p.across p.channels (sym c.if-not-is_within.ensures)).1

pub add_columns-requires-clause-links : goal.add_columns-requires-clause-links
add_columns-requires-clause-links c =
    let p = c.args.plan in
    ap (λ n. length n.links) c.in_ok-add_rows.ensures ∙ two_ways_length (row_site p.columns) 1 p.along p.channels (p.rows * (p.columns - 1))

pub returns : goal.returns
returns c =
    let p = c.args.plan in
    let within = sym c.if-not-is_within.ensures in
    let both = c.in_ok-add_columns.ensures ∙ ap (λ n. net (p.columns * p.rows) (n.links ++ two_ways (λ m. m) p.columns p.across p.channels (p.columns * (p.rows - 1)))) c.in_ok-add_rows.ensures in
    (within, is_grid p.across (plans p.columns p.rows p.along p.across p.channels within).0 (owned_meaning c.add_columns.new.network) both)
