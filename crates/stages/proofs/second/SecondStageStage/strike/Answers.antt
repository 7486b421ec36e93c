-- A strike keeps the marks of the parts as those of the pieces, and makes those of the parts new.
use Rattle.stages.proofs.Considering.{strike_ready}
use Rattle.stages.proofs.second.SecondStageStage.strike.Goals as goal

pub returns-clause-stands : goal.returns-clause-stands
returns-clause-stands g c S ready fresh =
    let first = c.args.self.now.first in
    let network = first.network.now in
    strike_ready g.met.C.Cost.lawful (g.N.Network.meaning network) (g.met.N.Network.sound network) first.left c.args.self.now.piece.now c.args.self.now.part.now c.strike.new.piece c.strike.new.part c.args.site S c.requires.within ready c.strike.auto.piece c.strike.ensures.piece c.strike.ensures.part
