-- A change leaves this question alone.
use Rattle.std.proofs.Common.{sym, ◌∙◌}
use Rattle.layers.proofs.Passing.{shown_channels}
use Rattle.layers.proofs.layering.LayerNetwork.channels.Goals as goal

pub returns : goal.returns
returns g c =
    let self = c.args.self.now in
    c.channels.ensures ∙ sym (shown_channels _ _ _ (g.met.K.Change.shows self.change) (g.N.Network.meaning self.below) c.args.link)
