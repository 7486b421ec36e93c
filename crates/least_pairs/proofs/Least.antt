-- The pair read for a target with a second label is least, and its cost is the label and the target's distance twice.
use Rattle.std.proofs.Common.{◌≡◌, ℕ, Some, subst}
use Rattle.costs.specs.Costs.{Ops, Laws, Le}
use Rattle.costs.proofs.Order.{le_antisym}
use Rattle.least_pairs.specs.Views.{View}
use Rattle.least_pairs.specs.Routes.{LeastPair, pair_cost}
use Rattle.least_pairs.specs.Runs.{Label, State}
use Rattle.least_pairs.specs.Plans.{first_job, second_job, pair_read, pair}
use Rattle.least_pairs.specs.Rightness.{Says, NoSiteTwice}
use Rattle.least_pairs.specs.Laws.{RunLaws}
use Rattle.least_pairs.proofs.Sight.{SoundView}
use Rattle.least_pairs.proofs.Bound.{pair_least}
use Rattle.least_pairs.proofs.Balance.{reads_a_pair, reads_at_most, reads_short}

module _ {C : Type 0} {k : Ops C} (laws : Laws k) (v : View C) (sound : SoundView k v) {root : ℕ} {first second : State C} (fl : RunLaws k (first_job v) root first) (sl : RunLaws k (second_job k v root first) root second)
    (target : ℕ) (other : target ≡ root → ⊥) (d l : Label C) (reached : first.labels target ≡ Some d) (labelled : second.labels target ≡ Some l) where
  -- the cost of the pair read
  pub reads_cost : k.plus l.cost (k.plus d.cost d.cost) ≡ pair_cost k v (pair_read v first second root target).0 (pair_read v first second root target).1
  reads_cost =
      le_antisym laws
      (pair_least laws sound fl sl target l d labelled reached (pair_read v first second root target).0 (pair_read v first second root target).1 (reads_a_pair laws v sound fl sl target other l labelled))
      (reads_at_most laws v sound fl sl target other l labelled d reached)

  -- no other pair costs less
  pub reads_least : LeastPair k v root target (pair_read v first second root target).0 (pair_read v first second root target).1
  reads_least = record {
    pair = reads_a_pair laws v sound fl sl target other l labelled;
    least = λ a b p. subst (λ c. Le k c (pair_cost k v a b)) reads_cost (pair_least laws sound fl sl target l d labelled reached a b p);
  }

  -- what the answer with that pair says holds
  pub says_pair : Says k v root target (pair (pair_read v first second root target).0 (pair_read v first second root target).1 (k.plus l.cost (k.plus d.cost d.cost)))
  says_pair = (reads_least, reads_cost)

  -- neither of its routes visits a site twice
  pub pair_short : NoSiteTwice v root (pair (pair_read v first second root target).0 (pair_read v first second root target).1 (k.plus l.cost (k.plus d.cost d.cost)))
  pair_short = reads_short laws v sound fl sl target other l labelled
