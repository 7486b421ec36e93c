-- Each take is accepted, and the end.
use Rattle.std.proofs.Common.{IsOk, sym, refl, ap, subst, ◌∙◌, arith}
use Rattle.std.proofs.lemmas.List.{take_all}
use Rattle.route_links.specs.Along.{taken_along}
use Rattle.route_links.proofs.Channelled.{next_take, taken_none}
use Rattle.route_links.proofs.channels.take_route.Goals as goal

pub loop-link-init : goal.loop-link-init
loop-link-init g c = (taken_none (g.N.Network.meaning c.args.network.now), g.met.N.Network.reflexive c.args.network.now)

pub unwrap-requires : goal.unwrap-requires
unwrap-requires g c =
    let n = g.N.Network.meaning c.args.network.now in
    let next = next_take n c.args.route.now c.loop-link.link-index (omega arith) c.requires.usable c.requires.once (g.N.Network.meaning c.loop-link.network) c.loop-link.invariant.0 in
    subst (λ r. IsOk r) (sym (c.take.ensures.answer ∙ next.accepted)) refl

pub loop-link-preserved : goal.loop-link-preserved
loop-link-preserved g c =
    let n = g.N.Network.meaning c.args.network.now in
    let route = c.args.route.now in
    let at = c.loop-link.link-index in
    let next = next_take n route at (omega arith) c.requires.usable c.requires.once (g.N.Network.meaning c.loop-link.network) c.loop-link.invariant.0 in (
      c.take.ensures.after ∙ next.after,
      g.met.N.Network.transitive c.args.network.now c.loop-link.network c.take.new.self c.loop-link.invariant.1 c.take.ensures.keeps,
    )

pub returns : goal.returns
returns g c = record {
  taken = c.loop-link.invariant.0 ∙ ap (λ r. taken_along r (g.N.Network.meaning c.args.network.now)) (take_all c.loop-link.link-index c.args.route.now (omega arith));
  keeps = c.loop-link.invariant.1;
}
