-- What three tables hold: the labels of sites, by the number of the site.
use Rattle.std.specs.Prelude.{◌≡◌, ℕ, ◌<◌, cond, List, reverse, take, Some, None, Option, ◌==◌, slice_index_or}
use Rattle.costs.specs.Costs.{Ops}
use Rattle.least_pairs.specs.Runs.{Label, State}

-- the entry that stands for none
abbrev pub none : ℕ
none = 65535

-- the label of a site: there is one where the table of links has a link
abbrev pub held : {C : Type 0} → Ops C → List C → List ℕ → List ℕ → ℕ → Option (Label C)
held k costs links turns w = cond (slice_index_or links w none == none) None (Some (record { cost = slice_index_or costs w k.zero; link = slice_index_or links w none; turn = slice_index_or turns w none }))

-- the tables hold these labels at the sites below a number
abbrev pub Holds : {C : Type 0} → Ops C → ℕ → List C → List ℕ → List ℕ → (ℕ → Option (Label C)) → Type 0
Holds k n costs links turns labels = (w : ℕ) → w < n → held k costs links turns w ≡ labels w

-- the state that the tables hold: the labels, and the first entries of the order table, the newest first
abbrev pub read : {C : Type 0} → Ops C → List C → List ℕ → List ℕ → List ℕ → ℕ → State C
read k costs links turns order count = record { labels = held k costs links turns; order = reverse (take count order) }
