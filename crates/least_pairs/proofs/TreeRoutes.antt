-- The tree route of a reached site: a walk from the root over the tree links of the sites above it.
use Rattle.std.proofs.Common.{◌≡◌, ℕ, ◌+◌, ◌≤◌, true, false, List, [], ◌∷◌, ◌++◌, sym, refl, ap, ◌∙◌, subst, inl, inr, arith}
use Rattle.std.proofs.lemmas.Bool.{both_ways, cases_eq, false_from_ne_true}
use Rattle.costs.specs.Costs.{Ops, Laws}
use Rattle.costs.specs.Counting.{occurs}
use Rattle.least_pairs.specs.Views.{View}
use Rattle.least_pairs.specs.Routes.{Walk}
use Rattle.least_pairs.specs.Runs.{Job, State, has}
use Rattle.least_pairs.specs.Trees.{parent}
use Rattle.least_pairs.specs.Plans.{first_job, up, link_of, tree_route}
use Rattle.least_pairs.specs.Laws.{RunLaws}
use Rattle.least_pairs.proofs.Sight.{SoundView}
use Rattle.least_pairs.proofs.Listed.{occurs_one, occurs_append, lacks_occurs, lacks_more, has_head, has_cases, has_left, has_right, has_append}
use Rattle.least_pairs.proofs.Tree.{parent_reached, by_parents, up_root, up_other, up_more, up_cases, up_settled, up_self, up_reached, up_parent_lacks}
use Rattle.least_pairs.proofs.Distances.{tree_link_of}
use Rattle.least_pairs.proofs.Walks.{walk_append}

module _ {C : Type 0} {k : Ops C} {j : Job C} {root : ℕ} {first : State C} (run : RunLaws k j root first) where
  -- those above a site begin with it
  pub up_starts : (w : ℕ) → has w first.order ≡ true → (us : List ℕ) × (up first w ≡ w ∷ us)
  up_starts w h = grind (arith, up_root run, up_other run)

  -- the root's tree route is empty
  pub tree_route_root : tree_route first (up first root) ≡ []
  tree_route_root = ap (tree_route first) (up_root run)

  -- another site's is its parent's and then its tree link
  pub tree_route_other : (w : ℕ) → has w first.order ≡ true → (w ≡ root → ⊥) → tree_route first (up first w) ≡ tree_route first (up first (parent first.labels w)) ++ link_of (first.labels w) ∷ []
  tree_route_other w h n = grind (arith, up_starts, parent_reached run, up_other run)

  -- the tree link of a site above is on the tree route
  pub tree_route_has : (x w : ℕ) → has x (up first w) ≡ true → (x ≡ root → ⊥) → has (link_of (first.labels x)) (tree_route first (up first w)) ≡ true
  tree_route_has x w h nx =
      by_parents run (λ y. has x (up first y) ≡ true → has (link_of (first.labels x)) (tree_route first (up first y)) ≡ true)
      (λ g. elim (up_cases run x root g) [ inl e ↦ absurd (nx e) | inr q ↦ absurd (q.0 refl) ])
      (λ y hy n ih g.
      let e = link_of (first.labels x) in
      let front = tree_route first (up first (parent first.labels y)) in
      ap (has e) (tree_route_other y hy n)
      ∙ elim (up_cases run x y g) [
        | inl q ↦ has_right e front (link_of (first.labels y) ∷ []) (subst (λ z. has e (link_of (first.labels z) ∷ []) ≡ true) q (has_head e []))
        | inr q ↦ has_left e front (link_of (first.labels y) ∷ []) (ih q.1)
      ]) w (up_settled run x w h) h

  -- a link on the tree route is the tree link of a site above
  pub tree_route_from : (e w : ℕ) → has w first.order ≡ true → has e (tree_route first (up first w)) ≡ true → (x : ℕ) × (has x (up first w) ≡ true) × (x ≡ root → ⊥) × (e ≡ link_of (first.labels x))
  tree_route_from e w r h =
      by_parents run (λ y. has e (tree_route first (up first y)) ≡ true → (x : ℕ) × (has x (up first y) ≡ true) × (x ≡ root → ⊥) × (e ≡ link_of (first.labels x)))
      (λ g. absurd (both_ways false refl (sym (ap (has e) tree_route_root) ∙ g)))
      (λ y hy n ih g.
      let front = tree_route first (up first (parent first.labels y)) in
      elim (has_append e front (link_of (first.labels y) ∷ []) (sym (ap (has e) (tree_route_other y hy n)) ∙ g)) [
        | inl q ↦ let p = ih q in (p.0, up_more run p.0 y hy n p.1, p.2, p.3)
        | inr q ↦
            grind (arith, has_cases, up_self run)
      ]) w r h

module _ {C : Type 0} {k : Ops C} {v : View C} {root : ℕ} {first : State C} (laws : Laws k) (sound : SoundView k v) (run : RunLaws k (first_job v) root first) where
  -- the tree route leads from the root to its site
  pub tree_route_walk : (w : ℕ) → has w first.order ≡ true → Walk v root (tree_route first (up first w)) w
  tree_route_walk w h =
      by_parents run (λ y. Walk v root (tree_route first (up first y)) y)
      (subst (λ es. Walk v root es root) (sym (tree_route_root run)) refl)
      (λ y hy n ih.
      grind (arith, tree_link_of laws sound run, tree_route_other run, walk_append v)) w h

  -- the tree route uses no link twice
  pub tree_route_once : (w : ℕ) → has w first.order ≡ true → (e : ℕ) → occurs e (tree_route first (up first w)) ≤ 1
  tree_route_once w h e =
      by_parents run (λ y. occurs e (tree_route first (up first y)) ≤ 1)
      (omega (arith, ap (occurs e) (tree_route_root run)))
      (λ y hy n ih.
      let p = parent first.labels y in
      let d = link_of (first.labels y) in
      let front = tree_route first (up first p) in
      let whole : occurs e (tree_route first (up first y)) ≡ occurs e front + occurs e (d ∷ []) = ap (occurs e) (tree_route_other run y hy n) ∙ occurs_append e front (d ∷ []) in
      let off : has d front ≡ false =
      false_from_ne_true (has d front) (λ t. let x = tree_route_from run d p (parent_reached run y hy n) t in
      let same : x.0 ≡ y =
      grind (arith, tree_link_of laws sound run, up_reached run) in
      both_ways (has y (up first p)) (up_parent_lacks run y hy n) (subst (λ u. has u (up first p) ≡ true) same x.1)) in
      single front d off ih whole) w h
    where
      single : (front : List ℕ) (d : ℕ) {n : ℕ} → has d front ≡ false → occurs e front ≤ 1 → n ≡ occurs e front + occurs e (d ∷ []) → n ≤ 1
      single front d f ih q =
          elim (cases_eq e d) [
            | inl c ↦ let none : occurs e front ≡ 0 = ap (λ u. occurs u front) c ∙ lacks_occurs d front f in omega (arith, occurs_one e d)
            | inr c ↦ let none : occurs e (d ∷ []) ≡ 0 = lacks_occurs e (d ∷ []) (lacks_more e d [] c refl) in omega arith
          ]
