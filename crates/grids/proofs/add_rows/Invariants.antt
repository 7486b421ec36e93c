-- After m turns the first m streets along the rows are there.
use Rattle.std.proofs.Common.{◌≡◌, ◌*◌}
use Rattle.networks.specs.Owning.{owned_meaning}
use Rattle.grids.specs.Streets.{net, two_ways, row_site}
use Rattle.grids.proofs.add_rows.Given as goal

abbrev pub invariant-loop-m : goal.invariant-loop-m
invariant-loop-m l = owned_meaning l.network ≡ net (l.plan.columns * l.plan.rows) (two_ways (row_site l.plan.columns) 1 l.plan.along l.plan.channels l.m)
