-- The sizes of what a planning works out, and that each of its sums is exact.
use Rattle.std.specs.Prelude.{◌≡◌, ℕ, ◌≤◌, true, List, Some}
use Rattle.costs.specs.Costs.{Ops, worked, negated}
use Rattle.least_pairs.specs.Views.{View}
use Rattle.least_pairs.specs.Runs.{Label, State}
use Rattle.least_pairs.specs.Laws.{Considered}
use Rattle.least_pairs.specs.Plans.{first_job, second_job, reduced, cost_of}

-- the largest size that a planning meets
abbrev pub largest : ℕ
largest = 130815000000

-- a value within that size
abbrev pub Fits : {C : Type 0} → Ops C → C → Type 0
Fits k c = k.size c ≤ largest

-- a sum that is within that size, and is worked out exactly
abbrev pub ExactSum : {C : Type 0} → Ops C → C → C → Type 0
ExactSum k x y = Fits k (k.plus x y) × (worked k x y ≡ k.plus x y)

-- the sums of a planning: the distances offered, the reduced costs of usable links, the labels offered by considered links, and the totals
pub record SumsFit {C : Type 0} (k : Ops C) (v : View C) (root : ℕ) (first second : State C) : Type 0 where
  pub offered_distance : (y : ℕ) (S : List ℕ) (e : ℕ) (l : Label C) → Considered (first_job v) first.order y S e → first.labels y ≡ Some l → ExactSum k l.cost (v.cost e)
  pub start_side : (e : ℕ) → v.usable e ≡ true → ExactSum k (v.cost e) (cost_of k (first.labels (v.start e)))
  pub end_side : (e : ℕ) → negated k (cost_of k (first.labels (v.end e))) ≡ k.negation (cost_of k (first.labels (v.end e)))
  pub reduced_cost : (e : ℕ) → v.usable e ≡ true → ExactSum k (k.plus (v.cost e) (cost_of k (first.labels (v.start e)))) (k.negation (cost_of k (first.labels (v.end e))))
  pub offered_label : (y : ℕ) (S : List ℕ) (e : ℕ) (l : Label C) → Considered (second_job k v root first) second.order y S e → second.labels y ≡ Some l → ExactSum k l.cost (reduced k v first e)
  pub twice_distance : (w : ℕ) (d : Label C) → first.labels w ≡ Some d → ExactSum k d.cost d.cost
  pub total : (w : ℕ) (d l : Label C) → first.labels w ≡ Some d → second.labels w ≡ Some l → ExactSum k l.cost (k.plus d.cost d.cost)
