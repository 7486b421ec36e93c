-- The answer of a planning by what the tables of both runs hold.
use Rattle.std.proofs.Common.{◌≡◌, ℕ, ◌<◌, true, false, List, Some, None, Option, sym, refl, ap, ◌∙◌, subst}
use Rattle.std.proofs.lemmas.Bool.{both_ways}
use Rattle.costs.specs.Costs.{Ops, Laws, worked}
use Rattle.networks.specs.Meaning.{Net, Sound}
use Rattle.least_pairs.specs.Views.{view}
use Rattle.least_pairs.specs.Runs.{Label}
use Rattle.least_pairs.specs.Plans.{Answer, no_route, one_link, pair, answer, answered, labelled, first_cut}
use Rattle.least_pairs.specs.Rightness.{Right}
use Rattle.least_pairs.proofs.Proved.{answers_are_right, sums_are_exact}
use Rattle.pairs.specs.Reading.{first_of, second_of, pair_of, tree_route_to}
use Rattle.quotes.specs.Quotes.{Answered}

-- who is not labelled has no label
pub unlabelled : {C : Type 0} (o : Option (Label C)) → labelled o ≡ false → o ≡ None
unlabelled None h = refl
unlabelled (Some l) h = absurd (both_ways true h refl)

-- what holds of a network and a root holds of the same
pub at_same : (n m : Net) (root other : ℕ) (P : Net → ℕ → Type 0) → n ≡ m → root ≡ other → P n root → P m other
at_same n m root other P e f h = subst (λ r. P m r) f (subst (λ x. P x root) e h)

module _ {C : Type 0} {k : Ops C} (laws : Laws k) (n : Net) (sound : Sound n) (root target : ℕ) (inside : root < n.sites) (low : target < n.sites) (other : target ≡ root → ⊥) where
  -- what is the answer is right
  is_right : (a : Answer C) → answer k (view k n) root target ≡ a → Answered k n root target a
  is_right a is = record { is = is; right = subst (λ b. Right k (view k n) root target b) is (answers_are_right k laws n sound root target inside low (λ e. other (sym e))) }

  -- a target that the first run did not label has no route
  pub none_answered : labelled ((first_of k n root).labels target) ≡ false → Answered k n root target no_route
  unfolding answer
  none_answered h = is_right no_route (ap (λ o. answered k (view k n) root target (first_of k n root) (second_of k n root) o ((second_of k n root).labels target)) (unlabelled ((first_of k n root).labels target) h))

  -- one that only the first run labelled has a cutting link
  pub cut_answered : (d : Label C) → (first_of k n root).labels target ≡ Some d → labelled ((second_of k n root).labels target) ≡ false → (link : ℕ) → link ≡ first_cut k (view k n) root target (tree_route_to k n root target) → Answered k n root target (one_link link)
  unfolding answer
  cut_answered d hd hl link is =
      is_right (one_link link)
      ((λ i. answered k (view k n) root target (first_of k n root) (second_of k n root) (hd i) (unlabelled ((second_of k n root).labels target) hl i)) ∙ ap one_link (sym is))

  -- one that both labelled has the pair that is read, and the total is exact
  pub pair_answered : (d l : Label C) → (first_of k n root).labels target ≡ Some d → (second_of k n root).labels target ≡ Some l → (one two : List ℕ) (total : C) → one ≡ (pair_of k n root target).0 → two ≡ (pair_of k n root target).1 → total ≡ worked k l.cost (worked k d.cost d.cost) → Answered k n root target (pair one two total)
  unfolding answer
  pair_answered d l hd hl one two total one_is two_is total_is =
      let sums = sums_are_exact k laws n sound root inside in
      let exact : total ≡ k.plus l.cost (k.plus d.cost d.cost) = total_is ∙ ap (worked k l.cost) (sums.twice_distance target d hd).1 ∙ (sums.total target d l hd hl).1 in
      is_right (pair one two total)
      ((λ i. answered k (view k n) root target (first_of k n root) (second_of k n root) (hd i) (hl i)) ∙ (λ i. pair (sym one_is i) (sym two_is i) (sym exact i)))

-- the pair of a network and a root is that of the same
pub pair_at : {C : Type 0} {k : Ops C} (n m : Net) (root other target : ℕ) (one two : List ℕ) (total : C) → n ≡ m → root ≡ other → Answered k n root target (pair one two total) → Answered k m other target (pair one two total)
pair_at {k = k} n m root other target one two total e f h = at_same n m root other (λ x r. Answered k x r target (pair one two total)) e f h
