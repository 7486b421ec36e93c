-- Both walks back for a target with a second label lead home.
use Rattle.std.proofs.Common.{◌≡◌, ℕ, ◌<◌, true, length, sym, refl, subst}
use Rattle.costs.specs.Costs.{Ops, Laws}
use Rattle.networks.specs.Meaning.{Net, Sound}
use Rattle.least_pairs.specs.Views.{view}
use Rattle.least_pairs.specs.Routes.{Pair}
use Rattle.least_pairs.specs.Rightness.{Short, NoSiteTwice}
use Rattle.least_pairs.specs.Runs.{has}
use Rattle.least_pairs.specs.Plans.{labelled, pair_read, answer, answered}
use Rattle.least_pairs.proofs.Seen.{view_sound}
use Rattle.least_pairs.proofs.Tree.{root_reached}
use Rattle.least_pairs.proofs.Walks.{walk_reaches}
use Rattle.least_pairs.proofs.Balance.{reads_a_pair}
use Rattle.least_pairs.proofs.Proved.{no_route_visits_twice}
use Rattle.pairs.specs.Reading.{first_of, second_of, target_marks, first_walk, second_walk, pair_of, Home}
use Rattle.pairs.proofs.Turns.{marks_has}
use Rattle.pairs.proofs.Backwards.{labelled_some, walk_marks}
use Rattle.pairs.proofs.Both.{settled_labelled, first_ran, second_ran}

-- the pair of a target is what the two walks pass
pub pair_is : {C : Type 0} (k : Ops C) (n : Net) (root target : ℕ) → pair_of k n root target ≡ ((first_walk k n root target).0, (second_walk k n root target).0)
unfolding pair_read
pair_is k n root target = refl

module _ {C : Type 0} {k : Ops C} (laws : Laws k) (n : Net) (sound : Sound n) (root : ℕ) (inside : root < n.sites) (target : ℕ) (other : target ≡ root → ⊥) (has_second : labelled ((second_of k n root).labels target) ≡ true) where
  -- the two walks are two routes that share no link
  walks_are_pair : Pair (view k n) root target (pair_of k n root target).0 (pair_of k n root target).1
  walks_are_pair =
      let l = labelled_some ((second_of k n root).labels target) has_second in
      reads_a_pair laws (view k n) (view_sound laws n sound) (first_ran laws n sound root inside) (second_ran laws n sound root inside) target other l.0 l.1

  -- each is short
  both_short : Short (view k n) root (pair_of k n root target).0 × Short (view k n) root (pair_of k n root target).1
  unfolding answer
  both_short =
      let fl = first_ran laws n sound root inside in
      let sl = second_ran laws n sound root inside in
      let l = labelled_some ((second_of k n root).labels target) has_second in
      let reached = walk_reaches laws (view_sound laws n sound) fl (pair_of k n root target).0 root target walks_are_pair.first.leads (root_reached fl) in
      let d = fl.has_label target reached in
      subst (λ a. NoSiteTwice (view k n) root a) (λ i. answered k (view k n) root target (first_of k n root) (second_of k n root) (d.1 i) (l.1 i))
      (no_route_visits_twice k laws n sound root target inside (sl.sites target (sl.is_settled target l.0 l.1)) (λ e. other (sym e)))

  -- every mark of a target has a second label
  marks_labelled : (w : ℕ) → has w (target_marks k n root target) ≡ true → labelled ((second_of k n root).labels w) ≡ true
  marks_labelled w h = settled_labelled (second_ran laws n sound root inside) w (marks_has (second_of k n root).labels root w (second_of k n root).order target h)

  -- the first walk leads home
  pub first_home : Home k n root target (target_marks k n root target)
  unfolding pair_read
  first_home = record { leads = walks_are_pair.first.leads; few = both_short.0.few; entries = marks_labelled }

  -- and so does the second
  pub second_home : Home k n root target (first_walk k n root target).1
  unfolding pair_read
  second_home = record {
    leads = walks_are_pair.second.leads;
    few = both_short.1.few;
    entries = λ w h. marks_labelled w (walk_marks (view k n) (first_of k n root) (second_of k n root) root (length n.links) target (target_marks k n root target) _ w h);
  }
