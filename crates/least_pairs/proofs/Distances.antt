-- The first run: distances, reduced costs and tree links.
use Rattle.std.proofs.Common.{◌≡◌, ℕ, true, false, not, ◌&&◌, eqb, List, [], ◌∷◌, Some, None, Option, sym, refl, ap, ◌∙◌, subst}
use Rattle.std.proofs.lemmas.Bool.{eq-eqb, ne_eqb, eqb-true, eqb-false, both_ways, and_from, and_parts, not-true, not_from_false}
use Rattle.costs.specs.Costs.{Ops, Laws, Le}
use Rattle.costs.proofs.Quoted.{group, by_le, quoting}
use Rattle.least_pairs.specs.Views.{View}
use Rattle.least_pairs.specs.Runs.{Label, State, has}
use Rattle.least_pairs.specs.Trees.{turn_of, parent}
use Rattle.least_pairs.specs.Plans.{first_job, cost_of, came_over, tree_link, reduced, link_of}
use Rattle.least_pairs.specs.Laws.{Moment, Considered, RunLaws}
use Rattle.least_pairs.proofs.Sight.{SoundView}
use Rattle.least_pairs.proofs.Listed.{moment_of}

-- a label that came over a link is there, and has that link
came_over_true : {C : Type 0} (o : Option (Label C)) (e : ℕ) → came_over o e ≡ true → (l : Label C) × (o ≡ Some l) × (e ≡ link_of o)
came_over_true None e h = absurd (both_ways false refl h)
came_over_true (Some l) e h = (l, refl, sym (eqb-true l.link e h))

module _ {C : Type 0} {k : Ops C} {v : View C} {root : ℕ} {first : State C} (laws : Laws k) (sound : SoundView k v) (run : RunLaws k (first_job v) root first) where
  -- the root's distance is zero
  pub root_distance : cost_of k (first.labels root) ≡ k.zero
  root_distance = ap (cost_of k) run.root_label

  -- a usable link was considered when its start was settled
  first_considered : (e : ℕ) (S : List ℕ) → v.usable e ≡ true → Moment first.order (v.start e) S → Considered (first_job v) first.order (v.start e) S e
  first_considered e S h m = record {
    moment = m;
    link = sound.link e h;
    considers = and_from (v.usable e) (eqb (v.start e) (v.start e)) h (eq-eqb (v.start e) (v.start e) refl);
  }

  -- a usable link offers its end a distance, which is at most that
  pub link_offers : (e : ℕ) → v.usable e ≡ true → has (v.start e) first.order ≡ true → (m : Label C) × (first.labels (v.end e) ≡ Some m) × Le k m.cost (k.plus (cost_of k (first.labels (v.start e))) (v.cost e))
  link_offers e h r =
      let m = moment_of (v.start e) first.order r in
      let l = run.has_label (v.start e) r in
      let o = run.offers (v.start e) m.0 e (first_considered e m.0 h m.1) l.0 l.1 in
      (o.0, o.1, subst (λ c. Le k o.0.cost (k.plus c (v.cost e))) (sym (ap (cost_of k) l.1)) o.2)

  -- a usable link from a reached site ends at a reached site
  pub link_reaches : (e : ℕ) → v.usable e ≡ true → has (v.start e) first.order ≡ true → has (v.end e) first.order ≡ true
  link_reaches e h r = let o = link_offers e h r in run.is_settled (v.end e) o.0 o.1

  -- its reduced cost is not below zero
  pub reduced_least : (e : ℕ) → v.usable e ≡ true → has (v.start e) first.order ≡ true → Le k k.zero (reduced k v first e)
  reduced_least e h r =
      let o = link_offers e h r in
      let le : Le k (cost_of k (first.labels (v.end e))) (k.plus (cost_of k (first.labels (v.start e))) (v.cost e)) =
      subst (λ c. Le k c (k.plus (cost_of k (first.labels (v.start e))) (v.cost e))) (sym (ap (cost_of k) o.1)) o.2 in
      by_le laws (cost_of k (first.labels (v.end e)) ∷ cost_of k (first.labels (v.start e)) ∷ v.cost e ∷ []) le (search quoting depth 12) tt

  -- what the tree link of a reached site other than the root is: usable, from its parent, to it, at the difference of their distances
  pub record TreeLinkOf (w : ℕ) : Type 0 where
    pub usable : v.usable (link_of (first.labels w)) ≡ true
    pub starts : v.start (link_of (first.labels w)) ≡ parent first.labels w
    pub ends : v.end (link_of (first.labels w)) ≡ w
    pub adds : cost_of k (first.labels w) ≡ k.plus (cost_of k (first.labels (parent first.labels w))) (v.cost (link_of (first.labels w)))

  -- every reached site but the root has such a tree link
  pub tree_link_of : (w : ℕ) → has w first.order ≡ true → (w ≡ root → ⊥) → TreeLinkOf w
  tree_link_of w h n =
      let m = run.has_label w h in
      let r = run.reason w m.0 n m.1 in
      let is : link_of (first.labels w) ≡ m.0.link = ap link_of m.1 in
      let turn : parent first.labels w ≡ m.0.turn = ap (λ o. turn_of o w) m.1 in
      let both = and_parts (v.usable m.0.link) (eqb (v.start m.0.link) m.0.turn) r.2.considers in
      record {
        usable = ap v.usable is ∙ both.0;
        starts = ap v.start is ∙ eqb-true (v.start m.0.link) m.0.turn both.1 ∙ sym turn;
        ends = ap v.end is ∙ r.3;
        adds =
            ap (cost_of k) m.1 ∙ r.5
            ∙ ap (λ c. k.plus c (v.cost m.0.link)) (sym (ap (cost_of k) (ap first.labels turn ∙ r.4)))
            ∙ ap (λ e. k.plus (cost_of k (first.labels (parent first.labels w))) (v.cost e)) (sym is);
      }

  -- the reduced cost of a tree link is zero
  pub tree_reduced : (w : ℕ) → has w first.order ≡ true → (w ≡ root → ⊥) → reduced k v first (link_of (first.labels w)) ≡ k.zero
  tree_reduced w h n =
      let t = tree_link_of w h n in
      let e = link_of (first.labels w) in
      let d = cost_of k (first.labels (parent first.labels w)) in
      ap (λ u. k.plus (k.plus (v.cost e) (cost_of k (first.labels u))) (k.negation (cost_of k (first.labels (v.end e))))) t.starts
      ∙ ap (λ u. k.plus (k.plus (v.cost e) d) (k.negation (cost_of k (first.labels u)))) t.ends
      ∙ ap (λ c. k.plus (k.plus (v.cost e) d) (k.negation c)) t.adds
      ∙ group laws (v.cost e ∷ d ∷ []) (search quoting depth 12) tt

  -- the tree link of a site is told to be one
  pub tree_link_told : (w : ℕ) → has w first.order ≡ true → (w ≡ root → ⊥) → tree_link v first root (link_of (first.labels w)) ≡ true
  tree_link_told w h n =
      let e = link_of (first.labels w) in
      let m = run.has_label w h in
      subst (λ u. (came_over (first.labels u) e && not (eqb u root)) ≡ true) (sym (tree_link_of w h n).ends)
      (and_from (came_over (first.labels w) e) (not (eqb w root))
      (ap (λ o. came_over o e) m.1 ∙ ap (λ x. eqb x e) (sym (ap link_of m.1)) ∙ eq-eqb e e refl)
      (not_from_false (eqb w root) (ne_eqb w root n)))

  -- a link that is told to be a tree link is that of its end, which is reached and not the root
  pub tree_link_true : (e : ℕ) → tree_link v first root e ≡ true → (has (v.end e) first.order ≡ true) × (v.end e ≡ root → ⊥) × (e ≡ link_of (first.labels (v.end e)))
  tree_link_true e h =
      let b = and_parts (came_over (first.labels (v.end e)) e) (not (eqb (v.end e) root)) h in
      let c = came_over_true (first.labels (v.end e)) e b.0 in
      (run.is_settled (v.end e) c.0 c.1, eqb-false (v.end e) root (not-true (eqb (v.end e) root) b.1), c.2)
