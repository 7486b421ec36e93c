-- What is read from the tables of both runs of a planning over a network.
use Rattle.std.specs.Prelude.{◌≡◌, ℕ, ◌<◌, true, List, [], length}
use Rattle.costs.specs.Costs.{Ops}
use Rattle.networks.specs.Meaning.{Net}
use Rattle.least_pairs.specs.Views.{view}
use Rattle.least_pairs.specs.Routes.{Walk}
use Rattle.least_pairs.specs.Runs.{State, has}
use Rattle.least_pairs.specs.Plans.{first_run, second_run, marks, walk_back, pair_read, up, tree_route, labelled}

-- what the first run leaves
abbrev pub first_of : {C : Type 0} → Ops C → Net → ℕ → State C
first_of k n root = first_run k (view k n) root

-- what the second run leaves
abbrev pub second_of : {C : Type 0} → Ops C → Net → ℕ → State C
second_of k n root = second_run k (view k n) root (first_of k n root)

-- the marks of a target
abbrev pub target_marks : {C : Type 0} → Ops C → Net → ℕ → ℕ → List ℕ
target_marks k n root target = marks (second_of k n root).labels root (second_of k n root).order target

-- the walk back from a target with some marks: the links passed, from the root on, and the marks left
abbrev pub walked_back : {C : Type 0} → Ops C → Net → ℕ → ℕ → List ℕ → List ℕ × List ℕ
walked_back k n root target ms = walk_back (view k n) (first_of k n root) (second_of k n root) root (length n.links) target ms []

-- a walk back that leads from the root over fewer links than there are sites, where every marked site has a second label
pub record Home {C : Type 0} (k : Ops C) (n : Net) (root target : ℕ) (ms : List ℕ) : Type 0 where
  pub leads : Walk (view k n) root (walked_back k n root target ms).0 target
  pub few : length (walked_back k n root target ms).0 < n.sites
  pub entries : (w : ℕ) → has w ms ≡ true → labelled ((second_of k n root).labels w) ≡ true

-- the first walk back for a target, with all its marks
abbrev pub first_walk : {C : Type 0} → Ops C → Net → ℕ → ℕ → List ℕ × List ℕ
first_walk k n root target = walked_back k n root target (target_marks k n root target)

-- the second, with the marks that the first left
abbrev pub second_walk : {C : Type 0} → Ops C → Net → ℕ → ℕ → List ℕ × List ℕ
second_walk k n root target = walked_back k n root target (first_walk k n root target).1

-- the pair of a target
abbrev pub pair_of : {C : Type 0} → Ops C → Net → ℕ → ℕ → List ℕ × List ℕ
pair_of k n root target = pair_read (view k n) (first_of k n root) (second_of k n root) root target

-- the tree links from the root to a site
abbrev pub tree_route_to : {C : Type 0} → Ops C → Net → ℕ → ℕ → List ℕ
tree_route_to k n root target = tree_route (first_of k n root) (up (first_of k n root) target)
