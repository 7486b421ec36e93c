-- The pair read is that of the answer, and the total is exact.
use Rattle.std.proofs.Common.{◌≡◌, get_or, ◌∙◌, arith}
use Rattle.std.proofs.lemmas.List.{get_or_default}
use Rattle.costs.specs.Costs.{worked}
use Rattle.pairs.specs.Reading.{first_of, second_of}
use Rattle.cutting.proofs.Passing.{held_label}
use Rattle.quotes.proofs.Answering.{pair_answered}
use Rattle.quotes.proofs.telling.quote_pair.Goals as goal

pub returns : goal.returns
returns g c =
    let k = g.C.Cost.ops in
    let labels = c.args.labels.now in
    let found = labels.found in
    let network = found.tree.network.now in
    let n = g.N.Network.meaning network in
    let root = found.tree.root in
    let target = c.args.target in
    let low = c.requires.target.0 in
    let distance = labels.distance.now in
    let label = labels.label.now in
    let far : get_or distance target c.index-labels-at.result ≡ get_or distance target k.zero = get_or_default distance target c.index-labels-at.result k.zero (omega (arith, low, labels.distance_room)) in
    let extra : get_or label target c.index-labels-at-2.result ≡ get_or label target k.zero = get_or_default label target c.index-labels-at-2.result k.zero (omega (arith, low, labels.label_room)) in
    let total_is : c.sum-total.result ≡ worked k (get_or label target k.zero) (worked k (get_or distance target k.zero) (get_or distance target k.zero)) =
    c.sum-total.ensures ∙ (λ i. worked k (extra i) ((c.sum.ensures ∙ (λ j. worked k (far j) (far j))) i)) in
    record {
      answer = pair_answered g.met.C.Cost.lawful n (g.met.N.Network.sound network) root target found.tree.root_stands low c.requires.target.1 _ _
          (held_label k distance found.tree.links.now labels.parents.now target ((first_of k n root).labels target) (labels.first target low) c.requires.first)
          (held_label k label found.entry.now found.turns.now target ((second_of k n root).labels target) (labels.second target low) c.requires.second)
          _ _ c.sum-total.result c.read_pair-counts.ensures.one c.read_pair-counts.ensures.two total_is;
      rest = c.read_pair-counts.ensures.rest;
    }
