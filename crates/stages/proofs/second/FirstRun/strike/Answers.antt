-- The sites reached, and their parents, are sites.
use Rattle.stages.proofs.Considering.{renew_inside}
use Rattle.stages.proofs.second.FirstRun.strike.Goals as goal

pub renew-requires : goal.renew-requires
renew-requires g c =
    let network = c.args.self.now.network.now in
    record { sites = renew_inside g.met.C.Cost.lawful (g.N.Network.meaning network) (g.met.N.Network.sound network) c.args.self.now.left c.args.part.now c.requires.part }
