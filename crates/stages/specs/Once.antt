-- Lemma of the ghost field of `FirstRun`: that tables hold what the first run leaves has one proof at most.
use Rattle.std.specs.Prelude.{ℕ, List}
use Rattle.std.specs.Coded.{Coded, Coded-set, coded_ℕ, coded_list, Π_prop, →_prop, le_prop}
use Rattle.costs.specs.Costs.{Ops}
use Rattle.least_pairs.specs.Views.{View}
use Rattle.runs.specs.Codes.{some_label_code}
use Rattle.stages.specs.Second.{FirstLeft}

-- any two proofs are equal
pub first_left_once : {C : Type 0} → Coded C → {k : Ops C} {v : View C} {root : ℕ} {distance : List C} {tree parents order : List ℕ} → IsProp (FirstLeft k v root distance tree parents order)
first_left_once c x y = λ i. record {
  root_site = le_prop x.root_site y.root_site i;
  distances = le_prop x.distances y.distances i;
  trees = le_prop x.trees y.trees i;
  all_parents = le_prop x.all_parents y.all_parents i;
  labels = Π_prop (λ w. →_prop (Coded-set (some_label_code c) _ _)) x.labels y.labels i;
  reached = Coded-set (coded_list coded_ℕ) _ _ x.reached y.reached i;
}
