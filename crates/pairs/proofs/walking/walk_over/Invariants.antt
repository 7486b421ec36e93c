-- What the walk back keeps: with every state and list of marks with which it leads home, it stands where that walk stands after as many links.
use Rattle.std.proofs.Common.{◌≡◌, ◌-◌, length}
use Rattle.pairs.proofs.Homeward.{Back}
use Rattle.pairs.proofs.walking.walk_over.Given as goal

abbrev pub invariant-loop-site : goal.invariant-loop-site
invariant-loop-site g l = record {
  back : Back g.C.Cost.ops (g.N.Network.meaning l.tree.network.now) l.tree.root l.entry (g.M.Marks.marked l.initial.marks) l.target l.site (g.M.Marks.marked l.marks) l.initial.route l.route l.count;
  rooms : g.M.Marks.rooms l.marks ≡ g.M.Marks.rooms l.initial.marks;
}

abbrev pub decreases-loop-site : goal.decreases-loop-site
decreases-loop-site g l = length l.initial.route - l.count
