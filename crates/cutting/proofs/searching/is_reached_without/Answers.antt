-- The target is reached where its entry is a link.
use Rattle.std.proofs.Common.{arith}
use Rattle.least_pairs.specs.Views.{view, without}
use Rattle.least_pairs.specs.Plans.{first_run}
use Rattle.cutting.proofs.Passing.{labelled_entry}
use Rattle.cutting.proofs.searching.is_reached_without.Goals as goal

pub returns-clause-reached : goal.returns-clause-reached
returns-clause-reached g c =
    let k = g.C.Cost.ops in
    let tree = c.args.tree.now in
    let n = g.N.Network.meaning tree.network.now in
    let run = c.first_run_without-count in
    let after = run.new.tables in
    labelled_entry k after.costs.now after.links.now after.turns.now c.args.target ((first_run k (without c.args.link (view k n)) tree.root).labels c.args.target)
    (omega (arith, c.requires.target, c.requires.room.0, run.ensures.same.sites, after.all_links)) (run.ensures.left.labels c.args.target c.requires.target)
