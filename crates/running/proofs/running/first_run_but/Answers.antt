-- The first run over a network is a run of its job.
use Rattle.std.proofs.Common.{◌≡◌, sym, subst}
use Rattle.runs.specs.Turns.{Runnable}
use Rattle.least_pairs.specs.Views.{view}
use Rattle.least_pairs.specs.Runs.{Job}
use Rattle.least_pairs.specs.Plans.{first_job, first_run}
use Rattle.stages.specs.First.{cut}
use Rattle.running.specs.Left.{Left}
use Rattle.running.proofs.Runnables.{cut_runnable, cut_sites, left_by}
use Rattle.running.proofs.running.first_run_but.Goals as goal

pub run-requires-clause-runnable : goal.run-requires-clause-runnable
run-requires-clause-runnable g c =
    let k = g.C.Cost.ops in
    let network = c.args.network.now in
    let n = g.N.Network.meaning network in
    let same : first_job (cut c.args.left_out (view k n)) ≡ first_job (cut c.new-stage.result.left_out (view k (g.N.Network.meaning c.new-stage.result.network.now))) =
    sym (λ i. first_job (cut (c.new-stage.ensures.left_out i) (view k (g.N.Network.meaning (c.new-stage.ensures.network i))))) in
    subst (λ (j : Job g.row.C.Denot). Runnable k j c.args.root) same (cut_runnable g.met.C.Cost.lawful n (g.met.N.Network.sound network) c.args.root c.requires.root c.args.left_out)

pub returns-clause-left : goal.returns-clause-left
unfolding first_run
returns-clause-left g c =
    let k = g.C.Cost.ops in
    let v = view k (g.N.Network.meaning c.args.network.now) in
    let same : first_job (cut c.new-stage.result.left_out (view k (g.N.Network.meaning c.new-stage.result.network.now))) ≡ first_job (cut c.args.left_out v) =
    (λ i. first_job (cut (c.new-stage.ensures.left_out i) (view k (g.N.Network.meaning (c.new-stage.ensures.network i))))) in
    let now = c.run.new.tables in
    subst (λ m. Left k m (first_run k (cut c.args.left_out v) c.args.root) now.costs.now now.links.now now.turns.now now.order.now c.run.result) (cut_sites c.args.left_out v)
    (left_by c.args.root same c.run.ensures.labels c.run.ensures.count c.run.ensures.order)
