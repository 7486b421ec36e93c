-- What holds while a settled site spreads its label.
use Rattle.std.proofs.Common.{reverse, take}
use Rattle.runs.proofs.Stepping.{Turned}
use Rattle.runs.proofs.settling.settle.Given as goal

abbrev pub invariant-loop-link : goal.invariant-loop-link
invariant-loop-link g l =
    Turned g.C.Cost.ops (g.S.Stage.job l.stage) l.site l.cost (reverse (take l.count l.initial.tables.order.now)) l.initial.tables l.tables l.queue l.link
