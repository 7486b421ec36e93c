-- Climbs on the tree of the first run: the tree links that lead from a site down to one below it.
use Rattle.std.proofs.Common.{◌≡◌, ℕ, ◌+◌, ◌≤◌, true, false, List, [], ◌∷◌, ◌++◌, map, sym, refl, ap, ◌∙◌, subst, inl, inr, arith}
use mathlib.Core.List.{head-eq_of_cons-eq, tail-eq_of_cons-eq}
use Rattle.std.proofs.lemmas.Bool.{both_ways, cases_eq}
use Rattle.costs.specs.Costs.{Ops, Laws, total}
use Rattle.costs.specs.Counting.{hit, occurs}
use Rattle.least_pairs.specs.Views.{View}
use Rattle.least_pairs.specs.Runs.{Job, State, has}
use Rattle.least_pairs.specs.Trees.{parent}
use Rattle.least_pairs.specs.Plans.{up, first_job, link_of, reduced}
use Rattle.least_pairs.specs.Laws.{RunLaws}
use Rattle.least_pairs.proofs.Sight.{SoundView}
use Rattle.least_pairs.proofs.Distances.{TreeLinkOf, tree_link_of, tree_reduced}
use Rattle.least_pairs.proofs.Listed.{has_head, has_tail, has_cases, has_right, has_left, has_occurs, occurs_has, occurs_append, hit_other}
use Rattle.least_pairs.proofs.Walking.{occurs_map_from}
use Rattle.least_pairs.proofs.Tree.{by_parents, up_root, up_other, up_once, up_reached, up_settled, up_self, up_cases, up_antisym}

-- the tree link of a site
abbrev pub tree_of : {C : Type 0} → State C → ℕ → ℕ
tree_of first w = link_of (first.labels w)

-- a climb: the sites above one from itself on until another comes
abbrev pub Climb : {C : Type 0} → State C → ℕ → ℕ → List ℕ → Type 0
Climb first w a X = up first w ≡ X ++ up first a

module _ {C : Type 0} {k : Ops C} {j : Job C} {root : ℕ} {first : State C} (fl : RunLaws k j root first) where
  -- a site climbs to each that is above it
  pub climb_of : (a w : ℕ) → has a (up first w) ≡ true → (X : List ℕ) × Climb first w a X
  climb_of a w h =
      by_parents fl (λ z. has a (up first z) ≡ true → (X : List ℕ) × Climb first z a X)
      (λ g. grind (arith, up_cases fl))
      (λ z hz d ih g. elim (up_cases fl a z g) [
        | inl e ↦ ([], ap (up first) (sym e))
        | inr t ↦ let p = ih t.1 in (z ∷ p.0, up_other fl z hz d ∙ ap (λ us. z ∷ us) p.1)
      ]) w (up_settled fl a w h) h

  -- who climbs to a reached site has it above
  pub climb_above : (w a : ℕ) (X : List ℕ) → Climb first w a X → has a first.order ≡ true → has a (up first w) ≡ true
  climb_above w a X c ha = ap (has a) c ∙ has_right a X (up first a) (up_self fl a ha)

  -- a climb of no site stays
  pub climb_none : (w a : ℕ) → Climb first w a [] → has a first.order ≡ true → w ≡ a
  climb_none w a c ha = grind (arith, climb_above, up_antisym fl, up_self fl, up_settled fl)

  -- a longer climb begins with the site, and goes on from its parent
  pub climb_step : (w a x : ℕ) (X : List ℕ) → Climb first w a (x ∷ X) → has a first.order ≡ true → (x ≡ w) × (w ≡ root → ⊥) × (has w first.order ≡ true) × Climb first (parent first.labels w) a X
  climb_step w a x X c ha =
      let hw : has w first.order ≡ true = up_settled fl a w (climb_above w a (x ∷ X) c ha) in
      elim (cases_eq w root) [
        | inl e ↦
            let all : root ∷ [] ≡ x ∷ (X ++ up first a) = sym (ap (up first) e ∙ up_root fl) ∙ c in
            let none : has a (X ++ up first a) ≡ false = sym (ap (has a) (tail-eq_of_cons-eq all)) in
            absurd (both_ways (has a (X ++ up first a)) none (has_right a X (up first a) (up_self fl a ha)))
        | inr d ↦
            let all : w ∷ up first (parent first.labels w) ≡ x ∷ (X ++ up first a) = sym (up_other fl w hw d) ∙ c in
            (sym (head-eq_of_cons-eq all), d, hw, tail-eq_of_cons-eq all)
      ]

  -- a site of a climb has the end of the climb above it, and is another, reached, and not the root
  pub climb_under : (w a x : ℕ) (X : List ℕ) → Climb first w a X → has a first.order ≡ true → has x X ≡ true → has a (up first x) ≡ true
  climb_under w a x [] c ha h = absurd (both_ways false refl h)
  climb_under w a x (y ∷ X) c ha h =
      let p = climb_step w a y X c ha in
      elim (has_cases x y X h) [
        | inl e ↦ subst (λ z. has a (up first z) ≡ true) (sym (e ∙ p.0)) (climb_above w a (y ∷ X) c ha)
        | inr t ↦ climb_under (parent first.labels w) a x X p.3 ha t
      ]

  pub climb_over : (w a x : ℕ) (X : List ℕ) → Climb first w a X → has x X ≡ true → has x (up first w) ≡ true
  climb_over w a x X c h = ap (has x) c ∙ has_left x X (up first a) h

  pub climb_reached : (w a x : ℕ) (X : List ℕ) → Climb first w a X → has x X ≡ true → has x first.order ≡ true
  climb_reached w a x X c h = up_reached fl x w (climb_over w a x X c h)

  pub climb_apart : (w a x : ℕ) (X : List ℕ) → Climb first w a X → has a first.order ≡ true → has x X ≡ true → x ≡ a → ⊥
  climb_apart w a x X c ha h e =
      let twice : 1 ≤ occurs a X = subst (λ z. 1 ≤ occurs z X) e (has_occurs x X h) in
      absurd (omega (arith, up_once fl a w, ap (occurs a) c, occurs_append a X (up first a), has_occurs a (up first a) (up_self fl a ha)))

  pub climb_not_root : (w a x : ℕ) (X : List ℕ) → Climb first w a X → has a first.order ≡ true → has x X ≡ true → x ≡ root → ⊥
  climb_not_root w a x X c ha h e =
      elim (up_cases fl a x (climb_under w a x X c ha h)) [
        | inl s ↦ climb_apart w a x X c ha h (sym s)
        | inr t ↦ t.0 e
      ]

-- no image stands in a list of images more often than the number that another map gives back
occurs_images : (f g : ℕ → ℕ) (e : ℕ) (X : List ℕ) → ((x : ℕ) → has x X ≡ true → g (f x) ≡ x) → occurs e (map f X) ≤ occurs (g e) X
occurs_images f g e [] h = omega arith
occurs_images f g e (x ∷ X) h =
    let rest = occurs_images f g e X (λ y t. h y (has_tail y x X t)) in
    elim (cases_eq e (f x)) [
      | inl s ↦
          grind (arith, has_head)
      | inr d ↦
          omega (arith, hit_other e (f x) d)
    ]

-- the links of a climb
abbrev pub climb_links : {C : Type 0} → State C → List ℕ → List ℕ
climb_links first X = map (tree_of first) X

module _ {C : Type 0} {k : Ops C} (laws : Laws k) (v : View C) (sound : SoundView k v) {root : ℕ} {first : State C} (fl : RunLaws k (first_job v) root first) where
  -- the tree link of a site of a climb
  climb_branch : (w a x : ℕ) (X : List ℕ) → Climb first w a X → has a first.order ≡ true → has x X ≡ true → TreeLinkOf laws sound fl x
  climb_branch w a x X c ha h = tree_link_of laws sound fl x (climb_reached fl w a x X c h) (climb_not_root fl w a x X c ha h)

  -- the links of a climb lead from its upper end to its lower
  pub climb_balance : (y w a : ℕ) (X : List ℕ) → Climb first w a X → has a first.order ≡ true → hit y w + occurs y (map v.start (climb_links first X)) ≡ hit y a + occurs y (map v.end (climb_links first X))
  climb_balance y w a [] c ha = ap (λ z. hit y z + 0) (climb_none fl w a c ha)
  climb_balance y w a (x ∷ X) c ha =
      let p = climb_step fl w a x X c ha in
      let b = tree_link_of laws sound fl w p.2 p.1 in
      let starts : hit y (v.start (tree_of first x)) ≡ hit y (parent first.labels w) = ap (hit y) (ap (λ z. v.start (tree_of first z)) p.0 ∙ b.starts) in
      let ends : hit y (v.end (tree_of first x)) ≡ hit y w = ap (hit y) (ap (λ z. v.end (tree_of first z)) p.0 ∙ b.ends) in
      omega (arith, climb_balance y (parent first.labels w) a X p.3 ha)

  -- no link stands twice among them
  pub climb_once : (e w a : ℕ) (X : List ℕ) → Climb first w a X → has a first.order ≡ true → occurs e (climb_links first X) ≤ 1
  climb_once e w a X c ha =
      omega (arith, occurs_images (tree_of first) v.end e X (λ x h. (climb_branch w a x X c ha h).ends), up_once fl (v.end e) w, ap (occurs (v.end e)) c, occurs_append (v.end e) X (up first a))

  -- each is the tree link of its end, a site of the climb
  pub climb_link : (e w a : ℕ) (X : List ℕ) → Climb first w a X → has a first.order ≡ true → 1 ≤ occurs e (climb_links first X) → (e ≡ tree_of first (v.end e)) × (has (v.end e) X ≡ true) × (v.usable e ≡ true)
  climb_link e w a X c ha h =
      let p = occurs_map_from (tree_of first) e X h in
      let x = p.0 in
      let here : has x X ≡ true = occurs_has x X p.1 in
      let b = climb_branch w a x X c ha here in
      let ends : v.end e ≡ x = ap v.end (sym p.2) ∙ b.ends in
      (sym p.2 ∙ ap (tree_of first) (sym ends), subst (λ z. has z X ≡ true) (sym ends) here, subst (λ z. v.usable z ≡ true) p.2 b.usable)

  -- their reduced costs sum to zero
  pub climb_free : (w a : ℕ) (X : List ℕ) → Climb first w a X → has a first.order ≡ true → total k (reduced k v first) (climb_links first X) ≡ k.zero
  climb_free w a [] c ha = refl
  climb_free w a (x ∷ X) c ha =
      let p = climb_step fl w a x X c ha in
      ap (λ z. k.plus z (total k (reduced k v first) (climb_links first X))) (ap (λ z. reduced k v first (tree_of first z)) p.0 ∙ tree_reduced laws sound fl w p.2 p.1)
      ∙ ap (k.plus k.zero) (climb_free (parent first.labels w) a X p.3 ha)
      ∙ laws.zero_plus k.zero
