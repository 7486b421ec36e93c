-- The sites below the counter have their outcomes.
use Rattle.std.proofs.Common.{ℕ, ◌<◌, get_or}
use Rattle.surveys.specs.declared.outcome.Outcome.TheVariants.{Root}
use Rattle.surveys.specs.Surveys.{OutcomeIs}
use Rattle.surveys.proofs.telling.tell_sites.Given as goal

abbrev pub invariant-loop-site : goal.invariant-loop-site
invariant-loop-site g l = (w : ℕ) → w < l.site → OutcomeIs g.C.Cost.ops (g.N.Network.meaning l.labels.found.tree.network.now) l.labels.found.tree.root w (get_or l.outcomes w Root)
