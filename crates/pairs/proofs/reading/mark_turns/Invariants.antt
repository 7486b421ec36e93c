-- What the marking keeps: the marks set so far and those of the site that comes next are the target's.
use Rattle.std.proofs.Common.{◌≡◌, ◌<◌, true, length}
use Rattle.least_pairs.specs.Runs.{has}
use Rattle.pairs.specs.Reading.{second_of, target_marks}
use Rattle.pairs.proofs.Turns.{Marking}
use Rattle.pairs.proofs.reading.mark_turns.Given as goal

abbrev pub invariant-loop-site : goal.invariant-loop-site
invariant-loop-site g l = record {
  settled : has l.site (second_of g.C.Cost.ops (g.N.Network.meaning l.network) l.root).order ≡ true;
  marking : Marking (second_of g.C.Cost.ops (g.N.Network.meaning l.network) l.root) l.root l.target (g.M.Marks.marked l.marks) l.site;
  low : l.site < (g.N.Network.meaning l.network).sites;
  few : (g.N.Network.meaning l.network).sites < 65536;
  rooms : g.M.Marks.rooms l.marks ≡ g.M.Marks.rooms l.initial.marks;
}

abbrev pub decreases-loop-site : goal.decreases-loop-site
decreases-loop-site g l = length (target_marks g.C.Cost.ops (g.N.Network.meaning l.network) l.root l.site)
