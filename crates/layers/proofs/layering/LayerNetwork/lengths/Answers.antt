-- The metres below show raised; a refusal below is a refusal above.
use Rattle.std.proofs.Common.{Ok, Err, ap, ◌∙◌}
use Rattle.std.proofs.lemmas.Result.{err_from_is_err_and}
use Rattle.networks.specs.Telling.{lengths}
use Rattle.layers.proofs.Passing.{shown_lengths, shown_refused}
use Rattle.layers.proofs.layering.LayerNetwork.lengths.Goals as goal

pub returns-in_err-metres : goal.returns-in_err-metres
returns-in_err-metres g c =
    let self = c.args.self.now in
    let p = err_from_is_err_and c.from_residual.result c.from_residual.ensures.1 in
    p.1 ∙ ap Err p.2 ∙ shown_refused _ _ _ (g.met.K.Change.shows self.change) lengths (g.N.Network.meaning self.below) c.args.link _ c.in_err-metres.ensures

pub returns : goal.returns
returns g c =
    let self = c.args.self.now in
    ap (λ m. Ok (m, c.in_ok-metres.poles)) c.metres.ensures
    ∙ shown_lengths _ _ _ (g.met.K.Change.shows self.change) (g.N.Network.meaning self.below) c.args.link c.in_ok-metres.metres c.in_ok-metres.poles c.in_ok-metres.ensures
