-- The sums stay within 32 bits, and grow link by link.
use Rattle.std.proofs.Common.{ℕ, ap, ◌∙◌, arith}
use Rattle.std.proofs.lemmas.List.{take_all}
use Rattle.std.proofs.lemmas.List.Sums.{sum_by_more}
use Rattle.networks.specs.Meaning.{link_at}
use Rattle.route_links.specs.Along.{metres_along, poles_along}
use Rattle.route_links.proofs.Summing.{sum_part, metres_low}
use Rattle.route_links.proofs.lengths.add_up.Goals as goal

pub overflow_add-metres : goal.overflow_add-metres
overflow_add-metres g c =
    let n = g.N.Network.meaning c.args.network.now in
    omega (
      arith,
      sum_part (λ k. (link_at n k).metres) (λ k. (metres_low n (g.met.N.Network.sound c.args.network.now) k).0) c.args.route.now c.loop-link.link-index c.requires (omega arith),
      c.loop-link.invariant.0,
      ap (λ (x : ℕ × ℕ). x.0) c.lengths_of-lengths.ensures,
    )

pub overflow_add-poles : goal.overflow_add-poles
overflow_add-poles g c =
    let n = g.N.Network.meaning c.args.network.now in
    omega (
      arith,
      sum_part (λ k. (link_at n k).poles) (λ k. (metres_low n (g.met.N.Network.sound c.args.network.now) k).1) c.args.route.now c.loop-link.link-index c.requires (omega arith),
      c.loop-link.invariant.1,
      ap (λ (x : ℕ × ℕ). x.1) c.lengths_of-lengths.ensures,
    )

pub loop-link-preserved : goal.loop-link-preserved
loop-link-preserved g c =
    let n = g.N.Network.meaning c.args.network.now in
    let route = c.args.route.now in
    let at = c.loop-link.link-index in (
      omega (arith, c.loop-link.invariant.0, ap (λ (x : ℕ × ℕ). x.0) c.lengths_of-lengths.ensures, sum_by_more (λ k. (link_at n k).metres) route at 0 (omega arith)),
      omega (arith, c.loop-link.invariant.1, ap (λ (x : ℕ × ℕ). x.1) c.lengths_of-lengths.ensures, sum_by_more (λ k. (link_at n k).poles) route at 0 (omega arith)),
    )

pub returns : goal.returns
returns g c =
    let n = g.N.Network.meaning c.args.network.now in
    let all = take_all c.loop-link.link-index c.args.route.now (omega arith) in
    λ i. ((c.loop-link.invariant.0 ∙ ap (metres_along n) all) i, (c.loop-link.invariant.1 ∙ ap (poles_along n) all) i)
