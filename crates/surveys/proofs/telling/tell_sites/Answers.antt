-- One outcome more.
use Rattle.std.proofs.Common.{arith}
use Rattle.surveys.proofs.Entries.{written_more}
use Rattle.surveys.proofs.telling.tell_sites.Goals as goal

pub loop-site-preserved : goal.loop-site-preserved
loop-site-preserved g c =
    let tree = c.args.labels.now.found.tree in
    written_more g.C.Cost.ops (g.N.Network.meaning tree.network.now) tree.root c.loop-site.site c.loop-site.outcomes c.tell_site.result (omega arith) c.tell_site.ensures c.loop-site.invariant
