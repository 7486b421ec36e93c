-- A walk back from a site to the root, where the entry links of marked sites are those of any state.
use Rattle.std.specs.Prelude.{◌≡◌, ℕ, ◌<◌, Bool, true, List, [], length}
use Rattle.costs.specs.Costs.{Ops}
use Rattle.networks.specs.Meaning.{Net}
use Rattle.least_pairs.specs.Views.{view}
use Rattle.least_pairs.specs.Routes.{Walk}
use Rattle.least_pairs.specs.Runs.{State, has}
use Rattle.least_pairs.specs.Plans.{walk_back, labelled}
use Rattle.pairs.specs.Tables.{Tells, Marked}
use Rattle.pairs.specs.Reading.{first_of}

-- the walk back from a target with some marks: the links passed, from the root on, and the marks left
abbrev pub walked_over : {C : Type 0} → Ops C → Net → ℕ → State C → ℕ → List ℕ → List ℕ × List ℕ
walked_over k n root second target ms = walk_back (view k n) (first_of k n root) second root (length n.links) target ms []

-- a table of entry links and a set of marks with which the walk back leads from the root over fewer links than there are sites
pub record Returning {C : Type 0} (k : Ops C) (n : Net) (root : ℕ) (entry : List ℕ) (set : ℕ → Bool) (target : ℕ) (second : State C) (ms : List ℕ) : Type 0 where
  pub tells : Tells n.sites entry (λ l. l.link) second.labels
  pub marks : Marked set ms
  pub leads : Walk (view k n) root (walked_over k n root second target ms).0 target
  pub few : length (walked_over k n root second target ms).0 < n.sites
  pub entries : (w : ℕ) → has w ms ≡ true → labelled (second.labels w) ≡ true
