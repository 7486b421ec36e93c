-- A layer that changes nothing shows what lies below.
use Rattle.layers.proofs.Bare.{bare_shows}
use Rattle.layers.proofs.layer.Layer.over.Goals as goal

pub returns-clause-shows : goal.returns-clause-shows
returns-clause-shows g c =
    let met = g.met.K.Change in
    let none = c.none.result in
    bare_shows _ _ _ (met.shows none) (met.none_dark none c.none.ensures) (met.none_raised none c.none.ensures) (g.N.Network.meaning c.args.below) (g.met.N.Network.sound c.args.below)
