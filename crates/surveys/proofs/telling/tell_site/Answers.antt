-- The outcome by the labels of the site.
use Rattle.std.proofs.Common.{◌≡◌, get_or, ◌∙◌, arith}
use Rattle.std.proofs.lemmas.List.{get_or_default}
use Rattle.costs.specs.Costs.{worked}
use Rattle.pairs.specs.Reading.{first_of, second_of}
use Rattle.cutting.proofs.Passing.{read_at}
use Rattle.surveys.proofs.Entries.{root_is, no_route_is, one_link_is, total_is}
use Rattle.surveys.proofs.telling.tell_site.Goals as goal

pub returns-then-site-tree : goal.returns-then-site-tree
returns-then-site-tree g c =
    let tree = c.args.labels.now.found.tree in
    let is : c.args.site ≡ tree.root = omega arith in
    root_is g.met.C.Cost.lawful (g.N.Network.meaning tree.network.now) (g.met.N.Network.sound tree.network.now) tree.root c.args.site tree.root_stands c.requires is

pub returns-then-tree-at : goal.returns-then-tree-at
returns-then-tree-at g c =
    let k = g.C.Cost.ops in
    let labels = c.args.labels.now in
    let tree = labels.found.tree in
    let n = g.N.Network.meaning tree.network.now in
    let site = c.args.site in
    let one = read_at k n.sites labels.distance.now tree.links.now labels.parents.now (first_of k n tree.root).labels tree.room labels.first site c.requires in
    let is : get_or tree.links.now site 0 ≡ 65535 = omega arith in
    no_route_is g.met.C.Cost.lawful n (g.met.N.Network.sound tree.network.now) tree.root site tree.root_stands c.requires (λ e. omega (arith, e)) (one.none is)

pub last_piece_link-link-requires : goal.last_piece_link-link-requires
last_piece_link-link-requires g c =
    let k = g.C.Cost.ops in
    let labels = c.args.labels.now in
    let found = labels.found in
    let tree = found.tree in
    let n = g.N.Network.meaning tree.network.now in
    let site = c.args.site in
    let one = read_at k n.sites labels.distance.now tree.links.now labels.parents.now (first_of k n tree.root).labels tree.room labels.first site c.requires in
    let two = read_at k n.sites labels.label.now found.entry.now found.turns.now (second_of k n tree.root).labels found.entry_room labels.second site c.requires in
    let is : get_or found.entry.now site 0 ≡ 65535 = omega arith in
    record { room = found.entry_room; entry = (labels.label.now, found.turns.now, labels.second); site = (one.some (λ e. omega (arith, e)), two.none is) }

pub returns-then-entry-at : goal.returns-then-entry-at
returns-then-entry-at g c =
    let k = g.C.Cost.ops in
    let labels = c.args.labels.now in
    let found = labels.found in
    let tree = found.tree in
    let n = g.N.Network.meaning tree.network.now in
    let site = c.args.site in
    let one = read_at k n.sites labels.distance.now tree.links.now labels.parents.now (first_of k n tree.root).labels tree.room labels.first site c.requires in
    let two = read_at k n.sites labels.label.now found.entry.now found.turns.now (second_of k n tree.root).labels found.entry_room labels.second site c.requires in
    let is : get_or found.entry.now site 0 ≡ 65535 = omega arith in
    one_link_is g.met.C.Cost.lawful n (g.met.N.Network.sound tree.network.now) tree.root site tree.root_stands c.requires (λ e. omega (arith, e)) _ (one.label (λ e. omega (arith, e))) (two.none is) c.last_piece_link-link.result c.last_piece_link-link.ensures

pub returns : goal.returns
returns g c =
    let k = g.C.Cost.ops in
    let labels = c.args.labels.now in
    let found = labels.found in
    let tree = found.tree in
    let n = g.N.Network.meaning tree.network.now in
    let site = c.args.site in
    let distance = labels.distance.now in
    let label = labels.label.now in
    let one = read_at k n.sites distance tree.links.now labels.parents.now (first_of k n tree.root).labels tree.room labels.first site c.requires in
    let two = read_at k n.sites label found.entry.now found.turns.now (second_of k n tree.root).labels found.entry_room labels.second site c.requires in
    let far : get_or distance site c.index-labels-at.result ≡ get_or distance site k.zero = get_or_default distance site c.index-labels-at.result k.zero (omega (arith, c.requires, labels.distance_room)) in
    let extra : get_or label site c.index-labels-at-2.result ≡ get_or label site k.zero = get_or_default label site c.index-labels-at-2.result k.zero (omega (arith, c.requires, labels.label_room)) in
    total_is g.met.C.Cost.lawful n (g.met.N.Network.sound tree.network.now) tree.root site tree.root_stands c.requires (λ e. omega (arith, e)) _ _ (one.label (λ e. omega (arith, e))) (two.label (λ e. omega (arith, e)))
    c.sum-2.result
    (c.sum-2.ensures ∙ (λ i. worked k (extra i) ((c.sum.ensures ∙ (λ j. worked k (far j) (far j))) i)))
