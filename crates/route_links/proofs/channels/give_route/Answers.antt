-- Each link given back, and the end.
use Rattle.std.proofs.Common.{get_or, take, sym, ap, ◌∙◌, arith}
use Rattle.std.proofs.lemmas.List.{take_all, take_more}
use Rattle.networks.specs.Telling.{give_after}
use Rattle.route_links.specs.Along.{given_along}
use Rattle.route_links.proofs.Channelled.{given_none, give_next}
use Rattle.route_links.proofs.channels.give_route.Goals as goal

pub loop-link-init : goal.loop-link-init
loop-link-init g c = (given_none (g.N.Network.meaning c.args.network.now), g.met.N.Network.reflexive c.args.network.now)

pub loop-link-preserved : goal.loop-link-preserved
loop-link-preserved g c =
    let n = g.N.Network.meaning c.args.network.now in
    let route = c.args.route.now in
    let at = c.loop-link.link-index in
    let link = get_or route at 0 in (
      c.give.ensures.after
          ∙ ap (λ m. give_after m link) c.loop-link.invariant.0
          ∙ give_next (take at route) n link
          ∙ ap (λ r. given_along r n) (sym (take_more route at 0 (omega arith))),
      g.met.N.Network.transitive c.args.network.now c.loop-link.network c.give.new.self c.loop-link.invariant.1 c.give.ensures.keeps,
    )

pub returns : goal.returns
returns g c = record {
  given = c.loop-link.invariant.0 ∙ ap (λ r. given_along r (g.N.Network.meaning c.args.network.now)) (take_all c.loop-link.link-index c.args.route.now (omega arith));
  keeps = c.loop-link.invariant.1;
}
