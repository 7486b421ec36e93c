-- After so many turns as many streets across stand behind the links that were there.
use Rattle.std.proofs.Common.{◌≡◌, ◌*◌, ◌++◌}
use Rattle.networks.specs.Owning.{owned_meaning}
use Rattle.grids.specs.Streets.{net, two_ways}
use Rattle.grids.proofs.add_columns.Given as goal

abbrev pub invariant-loop-site : goal.invariant-loop-site
invariant-loop-site l = owned_meaning l.network ≡ net (l.plan.columns * l.plan.rows) ((owned_meaning l.initial.network).links ++ two_ways (λ m. m) l.plan.columns l.plan.across l.plan.channels l.site)
