-- A change leaves this question alone.
use Rattle.std.proofs.Common.{sym, ◌∙◌}
use Rattle.layers.proofs.Passing.{shown_ends}
use Rattle.layers.proofs.layering.LayerNetwork.ends.Goals as goal

pub returns : goal.returns
returns g c =
    let self = c.args.self.now in
    c.ends.ensures ∙ sym (shown_ends _ _ _ (g.met.K.Change.shows self.change) (g.N.Network.meaning self.below) c.args.link)
