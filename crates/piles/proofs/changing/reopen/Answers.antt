-- The layer of surcharges has the links of the network below.
use Rattle.std.proofs.Common.{◌∙◌}
use Rattle.networks.proofs.Layering.{told_changed}
use Rattle.layers.specs.Shown.{amounts, charging}
use Rattle.piles.proofs.changing.reopen.Goals as goal

pub returns-clause-answer : goal.returns-clause-answer
returns-clause-answer g c =
    let surcharged = c.args.pile.now.below in
    c.reopen.ensures.answer ∙ told_changed (charging (amounts surcharged)) (λ _. tt) (g.N.Network.meaning surcharged.below) c.args.link
