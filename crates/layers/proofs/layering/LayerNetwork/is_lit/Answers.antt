-- A dark link shows dark, any other as below.
use Rattle.std.proofs.Common.{not, ◌&&◌, Ok, Err, sym, ap, ◌∙◌}
use Rattle.std.proofs.lemmas.Result.{err_from_is_err_and}
use Rattle.layers.proofs.Passing.{shown_lit, shown_refused}
use Rattle.layers.proofs.layering.LayerNetwork.is_lit.Goals as goal

pub returns-in_err-lit : goal.returns-in_err-lit
returns-in_err-lit g c =
    let self = c.args.self.now in
    let p = err_from_is_err_and c.from_residual.result c.from_residual.ensures.1 in
    p.1 ∙ ap Err p.2 ∙ shown_refused _ _ _ (g.met.K.Change.shows self.change) (λ l. l.lit) (g.N.Network.meaning self.below) c.args.link _ c.in_err-lit.ensures

pub returns-then-lit : goal.returns-then-lit
returns-then-lit g c =
    let self = c.args.self.now in
    let dark = g.K.Change.dark self.change c.args.link in
    ap (λ d. Ok (not d)) c.is_dark.ensures
    ∙ ap (λ lit. Ok (lit && not dark)) (sym c.if-lit.true)
    ∙ shown_lit _ _ _ (g.met.K.Change.shows self.change) (g.N.Network.meaning self.below) c.args.link c.in_ok-lit.lit c.in_ok-lit.ensures

pub returns-else-lit : goal.returns-else-lit
returns-else-lit g c =
    let self = c.args.self.now in
    let dark = g.K.Change.dark self.change c.args.link in
    ap Ok c.if-lit.false
    ∙ ap (λ lit. Ok (lit && not dark)) (sym c.if-lit.false)
    ∙ shown_lit _ _ _ (g.met.K.Change.shows self.change) (g.N.Network.meaning self.below) c.args.link c.in_ok-lit.lit c.in_ok-lit.ensures
