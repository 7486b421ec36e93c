-- The answer by the labels of the target.
use Rattle.std.proofs.Common.{◌≡◌, true, get_or, sym, refl, ap, ◌∙◌, arith, IsSome, subst}
use Rattle.std.specs.Option.{unwrap_or}
use Rattle.least_pairs.specs.Plans.{labelled}
use Rattle.pairs.specs.Reading.{first_of, second_of}
use Rattle.pairs.proofs.Held.{tells_links}
use Rattle.cutting.proofs.Passing.{read_at}
use Rattle.quotes.proofs.Answering.{none_answered, cut_answered, pair_at, at_same}
use Rattle.quotes.proofs.Cut.{cut_is_found}
use Rattle.quotes.proofs.Testing.{two_apart}
use Rattle.quotes.proofs.telling.tell_quote.Goals as goal

pub returns-then-first-at : goal.returns-then-first-at
returns-then-first-at g c =
    let k = g.C.Cost.ops in
    let network = c.args.network.now in
    let n = g.N.Network.meaning network in
    let root = c.args.root in
    let target = c.args.target in
    let apart = two_apart n.sites root target c.requires.sites in
    let runs = c.both_runs in
    let first = runs.new.first in
    let one = read_at k n.sites first.costs.now first.links.now first.turns.now (first_of k n root).labels (omega arith) runs.ensures.first.1.labels target apart.1 in
    let is : get_or first.links.now target 0 ≡ 65535 = omega arith in (
      record { sites_stand = c.requires.sites; room_is = refl },
      none_answered g.met.C.Cost.lawful n (g.met.N.Network.sound network) root target apart.0 apart.1 apart.2 (one.none is),
      record { first = refl; second = refl },
    )

pub invariant_of-tree-clause-told : goal.invariant_of-tree-clause-told
invariant_of-tree-clause-told g c =
    let n = g.N.Network.meaning c.args.network.now in
    let runs = c.both_runs in
    let first = runs.new.first in
    tells_links g.C.Cost.ops n.sites first.costs.now first.links.now first.turns.now (first_of g.C.Cost.ops n c.args.root).labels runs.ensures.first.1.labels

pub cutting_link-cut-requires-clause-reached : goal.cutting_link-cut-requires-clause-reached
cutting_link-cut-requires-clause-reached g c =
    let k = g.C.Cost.ops in
    let n = g.N.Network.meaning c.args.network.now in
    let target = c.args.target in
    let apart = two_apart n.sites c.args.root target c.requires.sites in
    let runs = c.both_runs in
    let first = runs.new.first in
    (read_at k n.sites first.costs.now first.links.now first.turns.now (first_of k n c.args.root).labels (omega arith) runs.ensures.first.1.labels target apart.1).some (λ e. omega (arith, e))

pub unwrap-requires : goal.unwrap-requires
unwrap-requires g c =
    let k = g.C.Cost.ops in
    let network = c.args.network.now in
    let n = g.N.Network.meaning network in
    let root = c.args.root in
    let target = c.args.target in
    let apart = two_apart n.sites root target c.requires.sites in
    let runs = c.both_runs in
    let first = runs.new.first in
    let second = runs.new.second in
    let one = read_at k n.sites first.costs.now first.links.now first.turns.now (first_of k n root).labels (omega arith) runs.ensures.first.1.labels target apart.1 in
    let two = read_at k n.sites second.costs.now second.links.now second.turns.now (second_of k n root).labels (omega arith) runs.ensures.second.1.labels target apart.1 in
    let is : get_or second.links.now target 0 ≡ 65535 = omega arith in
    let found = cut_is_found g.met.C.Cost.lawful n (g.met.N.Network.sound network) root target apart.0 apart.1 apart.2 _ (one.label (λ e. omega (arith, e))) (two.none is) in
    subst (λ o. IsSome o) (sym (c.cutting_link-cut.ensures.cut ∙ found)) refl

pub returns-then-second-at : goal.returns-then-second-at
returns-then-second-at g c =
    let k = g.C.Cost.ops in
    let network = c.args.network.now in
    let n = g.N.Network.meaning network in
    let root = c.args.root in
    let target = c.args.target in
    let apart = two_apart n.sites root target c.requires.sites in
    let runs = c.both_runs in
    let first = runs.new.first in
    let second = runs.new.second in
    let one = read_at k n.sites first.costs.now first.links.now first.turns.now (first_of k n root).labels (omega arith) runs.ensures.first.1.labels target apart.1 in
    let two = read_at k n.sites second.costs.now second.links.now second.turns.now (second_of k n root).labels (omega arith) runs.ensures.second.1.labels target apart.1 in
    let is : get_or second.links.now target 0 ≡ 65535 = omega arith in (
      record { sites_stand = c.requires.sites; room_is = refl },
      cut_answered g.met.C.Cost.lawful n (g.met.N.Network.sound network) root target apart.0 apart.1 apart.2 _ (one.label (λ e. omega (arith, e))) (two.none is) c.unwrap.result (ap (λ o. unwrap_or o 0) (sym c.unwrap.ensures) ∙ c.cutting_link-cut.ensures.link),
      record { first = refl; second = refl },
    )

pub quote_pair-requires-clause-first : goal.quote_pair-requires-clause-first
quote_pair-requires-clause-first g c =
    let k = g.C.Cost.ops in
    let n = g.N.Network.meaning c.args.network.now in
    let root = c.args.root in
    let target = c.args.target in
    let runs = c.both_runs in
    let first = runs.new.first in
    let one = read_at k n.sites first.costs.now first.links.now first.turns.now (first_of k n root).labels (omega arith) runs.ensures.first.1.labels target (two_apart n.sites root target c.requires.sites).1 in
    at_same n _ root _ (λ m r. labelled ((first_of k m r).labels target) ≡ true) (sym (ap g.N.Network.meaning c.new-labels.ensures.network)) (sym c.new-labels.ensures.root) (one.some (λ e. omega (arith, e)))

pub quote_pair-requires-clause-second : goal.quote_pair-requires-clause-second
quote_pair-requires-clause-second g c =
    let k = g.C.Cost.ops in
    let n = g.N.Network.meaning c.args.network.now in
    let root = c.args.root in
    let target = c.args.target in
    let runs = c.both_runs in
    let second = runs.new.second in
    let two = read_at k n.sites second.costs.now second.links.now second.turns.now (second_of k n root).labels (omega arith) runs.ensures.second.1.labels target (two_apart n.sites root target c.requires.sites).1 in
    at_same n _ root _ (λ m r. labelled ((second_of k m r).labels target) ≡ true) (sym (ap g.N.Network.meaning c.new-labels.ensures.network)) (sym c.new-labels.ensures.root) (two.some (λ e. omega (arith, e)))

pub returns : goal.returns
returns g c = (
  record { sites_stand = c.requires.sites; room_is = refl },
  pair_at _ (g.N.Network.meaning c.args.network.now) _ c.args.root c.args.target _ _ _ (ap g.N.Network.meaning c.new-labels.ensures.network) c.new-labels.ensures.root c.quote_pair.ensures.answer,
  c.quote_pair.ensures.rest.0,
  c.quote_pair.ensures.rest.1,
)
