-- A take of a link that shows lit is passed down.
use Rattle.std.proofs.Common.{sym, ap, ◌∙◌}
use Rattle.networks.specs.Changing.{changed}
use Rattle.layers.proofs.Passing.{shown_take}
use Rattle.layers.proofs.layering.LayerNetwork.take.Goals as goal

pub returns-clause-answer : goal.returns-clause-answer
returns-clause-answer g c =
    let self = c.args.self.now in
    let lit = c.in_ok-is_lit in
    c.take.ensures.answer ∙ sym (shown_take _ _ _ (g.met.K.Change.shows self.change) (g.N.Network.meaning self.below) c.args.link lit.field-0 lit.ensures c.if-not-branch.false).0

pub returns-clause-after : goal.returns-clause-after
returns-clause-after g c =
    let self = c.args.self.now in
    let lit = c.in_ok-is_lit in
    ap (changed (g.K.Change.shown self.change)) c.take.ensures.after
    ∙ sym (shown_take _ _ _ (g.met.K.Change.shows self.change) (g.N.Network.meaning self.below) c.args.link lit.field-0 lit.ensures c.if-not-branch.false).1
