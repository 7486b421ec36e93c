-- What holds from turn to turn of a run.
use Rattle.std.proofs.Common.{◌≡◌, ◌-◌, reverse, take}
use Rattle.runs.specs.Lent.{SameTables, state_of}
use Rattle.runs.proofs.Going.{Ongoing}
use Rattle.runs.proofs.running.run.Given as goal

abbrev pub invariant-loop-next : goal.invariant-loop-next
invariant-loop-next g l = record {
  same : SameTables l.fn.tables l.tables;
  job : g.S.Stage.job l.stage ≡ g.S.Stage.job l.initial.stage;
  ready : g.S.Stage.ready l.stage (reverse (take l.count l.tables.order.now));
  turn : Ongoing g.C.Cost.ops (g.S.Stage.job l.stage) l.root (state_of g.C.Cost.ops l.tables l.count) l.queue l.count;
}

abbrev pub decreases-loop-next : goal.decreases-loop-next
decreases-loop-next g l = l.fn.tables.sites - l.count
