-- What holds as a run goes on: what is left to settle, and what a turn needs.
use Rattle.std.specs.Prelude.{◌≡◌, ℕ, ◌<◌, ◌≤◌, true, false, cond, List, ◌∷◌, Some, None, Option, ◌==◌}
use Rattle.costs.specs.declared.kind.Cost.{Ghosts}
use Rattle.costs.specs.Costs.{Ops, Le, worked}
use Rattle.queue.specs.declared.queues.Queue.{Queue}
use Rattle.queue.specs.Queues.{held_in, room_of}
use Rattle.least_pairs.specs.Runs.{Label, Job, has, improves, relabelled, outcome}
use Rattle.least_pairs.specs.Laws.{Considered}

-- a job that can be run from a root: the root is a site, every considered link ends at a site and adds no less than zero, and each sum that the run works out is exact
pub record Runnable {C : Type 0} (k : Ops C) (j : Job C) (root : ℕ) : Type 0 where
  pub begins : root < j.sites
  pub ends : (y : ℕ) (S : List ℕ) (e : ℕ) → e < j.links → j.considers y S e ≡ true → j.end e < j.sites
  pub adds : (y : ℕ) (S : List ℕ) (e : ℕ) → e < j.links → j.considers y S e ≡ true → Le k k.zero (j.adds e)
  pub exact : (y : ℕ) (S : List ℕ) (e : ℕ) (l : Label C) → Considered j (outcome k j root).order y S e → (outcome k j root).labels y ≡ Some l → worked k l.cost (j.adds e) ≡ k.plus l.cost (j.adds e)

-- the cost of a label, if there is one
abbrev pub costed : {C : Type 0} → Option (Label C) → Option C
costed None = None
costed (Some l) = Some l.cost

-- the cost at which a site is left to settle: it has a label and is not settled
abbrev pub pending : {C : Type 0} → (ℕ → Option (Label C)) → List ℕ → ℕ → Option C
pending labels order w = cond (has w order) None (costed (labels w))

-- what a turn needs that settles y, whose label costs c, after S: the considered links end at sites and add no less than zero, their sums are exact, and no settled site costs more
pub record Turn {C : Type 0} (k : Ops C) (j : Job C) (labels : ℕ → Option (Label C)) (y : ℕ) (c : C) (S : List ℕ) : Type 0 where
  pub site : y < j.sites
  pub left : has y S ≡ false
  pub ends : (e : ℕ) → e < j.links → j.considers y S e ≡ true → j.end e < j.sites
  pub adds : (e : ℕ) → e < j.links → j.considers y S e ≡ true → Le k k.zero (j.adds e)
  pub exact : (e : ℕ) → e < j.links → j.considers y S e ≡ true → worked k c (j.adds e) ≡ k.plus c (j.adds e)
  pub low : (x : ℕ) → has x (y ∷ S) ≡ true → (l : Label C) × (labels x ≡ Some l) × Le k l.cost c

-- a queue with room for so many sites that holds those left to settle, each at its label's cost
pub record Waiting {C : Type 0} (k : Ops C) (sites : ℕ) {m : Ghosts C} (q : Queue C m) (labels : ℕ → Option (Label C)) (order : List ℕ) : Type 0 where
  pub room : sites ≤ room_of q
  pub waits : (w : ℕ) → held_in k q w ≡ pending labels order w

-- a label was offered to a site: where it improves that site's label it replaces it, and the site waits in the queue at its cost
pub record Offering {C : Type 0} (k : Ops C) (v : ℕ) (l : Label C) (before after : ℕ → Option (Label C)) {m : Ghosts C} (p q : Queue C m) : Type 0 where
  pub labels : after ≡ cond (improves k l.cost (before v)) (relabelled before v l) before
  pub held : (w : ℕ) → held_in k q w ≡ cond (improves k l.cost (before v)) (cond (w == v) (Some l.cost) (held_in k p w)) (held_in k p w)
  pub room : room_of q ≡ room_of p
