-- The second run over what the first left is a run of its job.
use Rattle.std.proofs.Common.{◌≡◌, sym, subst}
use Rattle.runs.specs.Turns.{Runnable}
use Rattle.least_pairs.specs.Views.{view}
use Rattle.least_pairs.specs.Runs.{Job}
use Rattle.least_pairs.specs.Plans.{first_run, second_run, second_job}
use Rattle.running.proofs.Runnables.{again_runnable, left_by}
use Rattle.running.proofs.running.second_run.Goals as goal

pub run-requires-clause-runnable : goal.run-requires-clause-runnable
run-requires-clause-runnable g c =
    let k = g.C.Cost.ops in
    let network = c.args.first.network.now in
    let first = c.new-stage.ensures.first in
    let same = sym (λ i. second_job k (view k (g.N.Network.meaning (first i).network.now)) (first i).root (first_run k (view k (g.N.Network.meaning (first i).network.now)) (first i).root)) in
    subst (λ (j : Job g.row.C.Denot). Runnable k j c.args.first.root) same (again_runnable g.met.C.Cost.lawful (g.N.Network.meaning network) (g.met.N.Network.sound network) c.args.first.root c.args.first.left.root_site)

pub returns-clause-left : goal.returns-clause-left
unfolding second_run
returns-clause-left g c =
    let k = g.C.Cost.ops in
    let first = c.new-stage.ensures.first in
    let before = c.new-stage.result.first in
    let after = c.args.first in
    let same : second_job k (view k (g.N.Network.meaning before.network.now)) before.root (first_run k (view k (g.N.Network.meaning before.network.now)) before.root) ≡ second_job k (view k (g.N.Network.meaning after.network.now)) after.root (first_run k (view k (g.N.Network.meaning after.network.now)) after.root) =
    (λ i. second_job k (view k (g.N.Network.meaning (first i).network.now)) (first i).root (first_run k (view k (g.N.Network.meaning (first i).network.now)) (first i).root)) in
    left_by c.args.first.root same c.run.ensures.labels c.run.ensures.count c.run.ensures.order
