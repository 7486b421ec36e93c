-- Two short routes that share no link make fields within the limits of a certificate.
use Rattle.std.proofs.Common.{◌≡◌, ℕ, ◌+◌, ◌<◌, ◌≤◌, true, not, List, [], ◌∷◌, ◌++◌, length, refl, ap, ◌≢◌, arith}
use Rattle.std.specs.List.{AllByRecursion as All}
use Rattle.std.proofs.lemmas.List.Sums.{sum_by-cons}
use Rattle.std.proofs.lemmas.Bool.{and_from, lt-ltb, le-leb, ne_eqb}
use Rattle.costs.specs.Costs.{Ops}
use Rattle.costs.specs.Counting.{occurs}
use Rattle.networks.specs.Meaning.{Net, Sound, link_at, usable}
use Rattle.least_pairs.specs.Views.{view}
use Rattle.least_pairs.specs.Routes.{Walk, Pair}
use Rattle.least_pairs.specs.Rightness.{Short}
use Rattle.least_pairs.proofs.Listed.{occurs_append}
use Rattle.least_pairs.proofs.Seen.{usable_inside, usable_limits}
use Rattle.certificates.specs.Limits.{sites_sound, metres_sound, links_sound, route_sound, routes_sound}
use Rattle.route_links.specs.Along.{metres_along, poles_along}
use Rattle.pair_certificates.specs.Pairs.{PairsAreWithin}
use Rattle.pair_certificates.proofs.Sums.{metres_most}
use Rattle.pair_certificates.proofs.Once.{once_none_twice}

-- two different sites of a network that has no more than 256
sites_within : (root target : ℕ) → root < 256 → target < 256 → (root ≢ target) → sites_sound root target ≡ true
sites_within root target from to apart = and_from _ _ (lt-ltb root 256 from) (and_from _ _ (lt-ltb target 256 to) (ap not (ne_eqb root target apart)))

-- metres and pole metres
metres_within : (metres poles : ℕ) → 2 ≤ metres → metres ≤ 510000000 → poles ≤ metres → metres_sound metres poles ≡ true
metres_within metres poles some most carried = and_from _ _ (le-leb 2 metres some) (and_from _ _ (le-leb metres 510000000 most) (le-leb poles metres carried))

module _ (n : Net) (sound : Sound n) where
  -- each of a list's links is usable
  abbrev Usable : List ℕ → Type 0
  Usable route = All (λ e. usable (link_at n e) ≡ true) route

  -- each link of a walk is usable
  walk_usable : {C : Type 0} (k : Ops C) (from to : ℕ) (route : List ℕ) → Walk (view k n) from route to → Usable route
  walk_usable k from to [] walk = tt
  walk_usable k from to (e ∷ route) walk = (walk.0, walk_usable k (link_at n e).end to route walk.2)

  -- a metre or more for each link
  metres_some : (route : List ℕ) → Usable route → length route ≤ metres_along n route
  metres_some [] each = omega arith
  metres_some (e ∷ route) each =
      omega (arith, (usable_limits n sound e each.0).metres_low, metres_some route each.1, sum_by-cons (λ k. (link_at n k).metres) e route)

  -- no more metres on poles than there are
  poles_carried : (route : List ℕ) → Usable route → poles_along n route ≤ metres_along n route
  poles_carried [] each = omega arith
  poles_carried (e ∷ route) each =
      omega (
        arith,
        (usable_limits n sound e each.0).poles_high,
        poles_carried route each.1,
        sum_by-cons (λ k. (link_at n k).metres) e route,
        sum_by-cons (λ k. (link_at n k).poles) e route,
      )

  -- the number of each link is low enough
  links_within : (route : List ℕ) → Usable route → links_sound route ≡ true
  links_within [] each = refl
  links_within (e ∷ route) each =
      and_from _ _ (lt-ltb e 2048 (omega (arith, usable_inside n e each.0, sound.most_links))) (links_within route each.1)

  -- a route of usable links, some and at most 255
  route_within : (route : List ℕ) → Usable route → 1 ≤ length route → length route ≤ 255 → route_sound route ≡ true
  route_within route each some few =
      and_from _ _ (and_from _ _ (le-leb 1 (length route) some) (le-leb (length route) 255 few)) (links_within route each)

  -- fewer links than a network has sites are at most 255
  few_links : (route : List ℕ) → length route < n.sites → length route ≤ 255
  few_links route few = omega (arith, few, sound.most_sites)

  module _ {C : Type 0} (k : Ops C) (root target : ℕ) (one two : List ℕ) (pair : Pair (view k n) root target one two) (short_one : Short (view k n) root one) (short_two : Short (view k n) root two) where
    usable_one : Usable one
    usable_one = walk_usable k root target one pair.first.leads

    usable_two : Usable two
    usable_two = walk_usable k root target two pair.second.leads

    few_one : length one ≤ 255
    few_one = few_links one short_one.few

    few_two : length two ≤ 255
    few_two = few_links two short_two.few

    pub sums_within : metres_sound (metres_along n one + metres_along n two) (poles_along n one + poles_along n two) ≡ true
    sums_within =
        metres_within (metres_along n one + metres_along n two) (poles_along n one + poles_along n two)
        (omega (arith, short_one.some, short_two.some, metres_some one usable_one, metres_some two usable_two))
        (omega (arith, metres_most n sound one few_one, metres_most n sound two few_two))
        (omega (arith, poles_carried one usable_one, poles_carried two usable_two))

    pub routes_within : routes_sound one two ≡ true
    routes_within =
        let once : (e : ℕ) → occurs e (one ++ two) ≤ 1 = λ e. omega (arith, pair.apart e, occurs_append e one two) in
        and_from _ _ (route_within one usable_one short_one.some few_one)
        (and_from _ _ (route_within two usable_two short_two.some few_two) (once_none_twice (one ++ two) once))

pub pairs_are_within : {C : Type 0} (k : Ops C) → PairsAreWithin k
pairs_are_within k n sound circuit root target circuit_is from to apart one two pair short_one short_two =
    and_from _ _ circuit_is
    (and_from _ _ (sites_within root target (omega (arith, from, sound.most_sites)) (omega (arith, to, sound.most_sites)) apart)
    (and_from _ _ (sums_within n sound k root target one two pair short_one short_two) (routes_within n sound k root target one two pair short_one short_two)))
