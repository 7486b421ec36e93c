-- A give is passed down.
use Rattle.std.proofs.Common.{sym, ap, ◌∙◌}
use Rattle.networks.specs.Changing.{changed}
use Rattle.layers.proofs.Passing.{shown_give}
use Rattle.layers.proofs.layering.LayerNetwork.give.Goals as goal

pub returns-clause-answer : goal.returns-clause-answer
returns-clause-answer g c =
    let self = c.args.self.now in
    c.give.ensures.answer ∙ sym (shown_give _ _ _ (g.met.K.Change.shows self.change) (g.N.Network.meaning self.below) c.args.link).0

pub returns-clause-after : goal.returns-clause-after
returns-clause-after g c =
    let self = c.args.self.now in
    ap (changed (g.K.Change.shown self.change)) c.give.ensures.after ∙ sym (shown_give _ _ _ (g.met.K.Change.shows self.change) (g.N.Network.meaning self.below) c.args.link).1
