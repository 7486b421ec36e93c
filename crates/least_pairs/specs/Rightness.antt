-- What a right answer is, in terms of all routes and all pairs of routes.
use Rattle.std.specs.Prelude.{◌≡◌, ℕ, ◌<◌, ◌≤◌, List, length}
use Rattle.costs.specs.Costs.{Ops}
use Rattle.least_pairs.specs.Views.{View}
use Rattle.least_pairs.specs.Routes.{Route, Pair, pair_cost, LeastPair, NoRoute, Shared, FirstShared, Simple}
use Rattle.least_pairs.specs.Plans.{Answer, no_route, one_link, pair, Entry, root_entry, total_entry, no_route_entry, one_link_entry}

-- what an answer says: no route leads there; there are routes, all use this link, and they meet it first of those that all use; or this pair is least and the total is its cost
abbrev pub Says : {C : Type 0} → Ops C → View C → ℕ → ℕ → Answer C → Type 0
Says k v root target no_route = NoRoute v root target
Says k v root target (one_link e) = ((es : List ℕ) × Route v root target es) × FirstShared v root target e
Says k v root target (pair one two total) = LeastPair k v root target one two × (total ≡ pair_cost k v one two)

-- a route with at least one link and fewer than there are sites, on which no site is visited twice
pub record Short {C : Type 0} (v : View C) (root : ℕ) (es : List ℕ) : Type 0 where
  pub simple : Simple v root es
  pub some : 1 ≤ length es
  pub few : length es < v.sites

-- neither route of a pair visits a site twice, and each has at least one link and fewer than there are sites
abbrev pub NoSiteTwice : {C : Type 0} → View C → ℕ → Answer C → Type 0
NoSiteTwice v root no_route = Unit {0}
NoSiteTwice v root (one_link e) = Unit {0}
NoSiteTwice v root (pair one two total) = Short v root one × Short v root two

-- an answer given exactly when it is true: each of the three truths has its answer
pub record Exactly {C : Type 0} (v : View C) (root target : ℕ) (a : Answer C) : Type 0 where
  pub none : NoRoute v root target → a ≡ no_route
  pub cut : (e : ℕ) (es : List ℕ) → Route v root target es → Shared v root target e → (f : ℕ) × (a ≡ one_link f)
  pub two : (one two : List ℕ) → Pair v root target one two → (x y : List ℕ) × (z : C) × (a ≡ pair x y z)

-- a right answer
pub record Right {C : Type 0} (k : Ops C) (v : View C) (root target : ℕ) (a : Answer C) : Type 0 where
  pub says : Says k v root target a
  pub exactly : Exactly v root target a
  pub no_site_twice : NoSiteTwice v root a

-- a right entry of a survey: the root's is root; a total is the least cost of two routes that share no link, and stands exactly where there are two such; no route and a link as in an answer
abbrev pub RightEntry : {C : Type 0} → Ops C → View C → ℕ → ℕ → Entry C → Type 0
RightEntry k v root w root_entry = w ≡ root
RightEntry k v root w (total_entry total) = (one two : List ℕ) × LeastPair k v root w one two × (total ≡ pair_cost k v one two)
RightEntry k v root w no_route_entry = NoRoute v root w
RightEntry k v root w (one_link_entry e) = ((es : List ℕ) × Route v root w es) × FirstShared v root w e
