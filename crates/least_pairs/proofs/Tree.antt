-- The tree that a run leaves: parents, and the sites above a site.
use Rattle.std.proofs.Common.{◌≡◌, ℕ, ◌≤◌, true, false, eqb, ◌⊎◌, List, [], ◌∷◌, ◌++◌, Option, sym, refl, ap, ◌∙◌, subst, inl, inr, append_assoc, arith}
use Rattle.std.proofs.lemmas.Bool.{eq-eqb, ne_eqb, both_ways, cond-true, cond-false, true_from_ne_false}
use Rattle.costs.specs.Costs.{Ops}
use Rattle.costs.specs.Counting.{occurs}
use Rattle.costs.proofs.Counted.{hit_self}
use Rattle.least_pairs.specs.Runs.{Label, Job, State, has}
use Rattle.least_pairs.specs.Trees.{turn_of, parent, above}
use Rattle.least_pairs.specs.Plans.{up}
use Rattle.least_pairs.specs.Laws.{Moment, RunLaws}
use Rattle.least_pairs.proofs.Moments.{moment_has, moment_before}
use Rattle.least_pairs.proofs.Listed.{has_head, has_tail, has_cases, lacks_tail, lacks_head, has_occurs, occurs_has, occurs_lacks, occurs_append, moment_of}

-- what holds of each that is settled if it holds of all before holds of all in an older part of the order
pub moment_order : (P : ℕ → Type 0) (order : List ℕ) → ((y : ℕ) (S : List ℕ) → Moment order y S → ((x : ℕ) → has x S ≡ true → P x) → P y) → (front back : List ℕ) → order ≡ front ++ back → (w : ℕ) → has w back ≡ true → P w
moment_order P order step front [] e w h = absurd (both_ways false refl h)
moment_order P order step front (y ∷ S) e w h =
    let below : (x : ℕ) → has x S ≡ true → P x = λ x hx. moment_order P order step (front ++ y ∷ []) S (e ∙ sym (append_assoc front (y ∷ []) S)) x hx in
    elim (has_cases w y S h) [
      | inl q ↦ subst P (sym q) (step y S (record { later = front; whole = e }) below)
      | inr t ↦ below w t
    ]

module _ {C : Type 0} (labels : ℕ → Option (Label C)) where
  -- a front of the order without a site does not matter to what is above it
  pub above_skip : (xs ys : List ℕ) (w : ℕ) → has w xs ≡ false → above labels (xs ++ ys) w ≡ above labels ys w
  above_skip [] ys w h = refl
  above_skip (x ∷ xs) ys w h = grind (arith, lacks_head, lacks_tail, above_skip xs ys w (lacks_tail w x xs h))

  -- a site that is not in the order has none above
  pub above_none : (xs : List ℕ) (w : ℕ) → has w xs ≡ false → above labels xs w ≡ []
  above_none [] w h = refl
  above_none (x ∷ xs) w h = grind (arith, lacks_head, lacks_tail, above_none xs w (lacks_tail w x xs h))

  -- the first of an order is followed by what is above its parent
  pub above_head : (ys : List ℕ) (w : ℕ) → above labels (w ∷ ys) w ≡ w ∷ above labels ys (parent labels w)
  above_head ys w = cond-true (eqb w w) (w ∷ above labels ys (parent labels w)) (above labels ys w) (eq-eqb w w refl)

  -- no site is above another more often than it is in the order
  pub above_occurs : (x : ℕ) (xs : List ℕ) (w : ℕ) → occurs x (above labels xs w) ≤ occurs x xs
  above_occurs x [] w = omega arith
  above_occurs x (y ∷ ys) w = grind (arith, above_occurs x ys (parent labels y), above_occurs x ys w)

module _ {C : Type 0} {k : Ops C} {j : Job C} {root : ℕ} {s : State C} (run : RunLaws k j root s) where
  -- what holds of each site that is settled if it holds of all before holds of all
  pub by_order : (P : ℕ → Type 0) → ((y : ℕ) (S : List ℕ) → Moment s.order y S → ((x : ℕ) → has x S ≡ true → P x) → P y) → (w : ℕ) → has w s.order ≡ true → P w
  by_order P step w h = moment_order P s.order step [] s.order refl w h

  -- the root is settled
  pub root_reached : has root s.order ≡ true
  root_reached = moment_has run.root_first

  -- a parent is settled before its site
  pub parent_earlier : (w : ℕ) → (w ≡ root → ⊥) → (T : List ℕ) → Moment s.order w T → has (parent s.labels w) T ≡ true
  parent_earlier w n T m =
      let l = run.has_label w (moment_has m) in
      subst (λ p. has p T ≡ true) (sym (ap (λ o. turn_of o w) l.1)) (run.turn_first w l.0 n l.1 T m)

  -- a parent is settled
  pub parent_reached : (w : ℕ) → has w s.order ≡ true → (w ≡ root → ⊥) → has (parent s.labels w) s.order ≡ true
  parent_reached w h n = let m = moment_of w s.order h in moment_before m.1 (parent s.labels w) (parent_earlier w n m.0 m.1)

  -- what holds of the root, and of each site if it holds of its parent, holds of all
  pub by_parents : (P : ℕ → Type 0) → P root → ((w : ℕ) → has w s.order ≡ true → (w ≡ root → ⊥) → P (parent s.labels w) → P w) → (w : ℕ) → has w s.order ≡ true → P w
  by_parents P base step w h =
      by_order P (λ y S m below.
      grind (arith, moment_has, parent_earlier)) w h

  -- who was settled up to a moment is not settled later
  pub moment_lacks : (y : ℕ) (S : List ℕ) (m : Moment s.order y S) → (x : ℕ) → has x (y ∷ S) ≡ true → has x m.later ≡ false
  moment_lacks y S m x h =
      occurs_lacks x m.later (omega (arith, run.once x, ap (occurs x) m.whole, occurs_append x m.later (y ∷ S), has_occurs x (y ∷ S) h))

  -- nobody was settled before its moment
  pub moment_new : (y : ℕ) (S : List ℕ) → Moment s.order y S → has y S ≡ false
  moment_new y S m =
      occurs_lacks y S (omega (arith, run.once y, ap (occurs y) m.whole, occurs_append y m.later (y ∷ S), hit_self y))

  -- what is above a site is what is above it in the order up to it
  up_moment : (y : ℕ) (S : List ℕ) → Moment s.order y S → (x : ℕ) → has x (y ∷ S) ≡ true → up s x ≡ above s.labels (y ∷ S) x
  up_moment y S m x h = ap (λ o. above s.labels o x) m.whole ∙ above_skip s.labels m.later (y ∷ S) x (moment_lacks y S m x h)

  -- a site that is not settled has none above
  pub up_none : (w : ℕ) → has w s.order ≡ false → up s w ≡ []
  up_none w h = above_none s.labels s.order w h

  -- only the root is above the root
  pub up_root : up s root ≡ root ∷ []
  up_root = up_moment root [] run.root_first root (has_head root []) ∙ above_head s.labels [] root

  -- above another site are itself and those above its parent
  pub up_other : (w : ℕ) → has w s.order ≡ true → (w ≡ root → ⊥) → up s w ≡ w ∷ up s (parent s.labels w)
  up_other w h n =
      let t = moment_of w s.order h in
      let S = t.0 in
      let m = t.1 in
      let p = parent s.labels w in
      let early : has p S ≡ true = parent_earlier w n S m in
      let differs : p ≡ w → ⊥ = λ e. both_ways (has w S) (moment_new w S m) (subst (λ z. has z S ≡ true) e early) in
      let tail : up s p ≡ above s.labels S p =
      up_moment w S m p (has_tail p w S early)
      ∙ cond-false (eqb p w) (w ∷ above s.labels S p) (above s.labels S p) (ne_eqb p w differs) in
      up_moment w S m w (has_head w S) ∙ above_head s.labels S w ∙ ap (λ us. w ∷ us) (sym tail)

  -- no site stands twice among those above another
  pub up_once : (x w : ℕ) → occurs x (up s w) ≤ 1
  up_once x w = omega (arith, above_occurs s.labels x s.order w, run.once x)

  -- who is above another is settled
  pub up_reached : (x w : ℕ) → has x (up s w) ≡ true → has x s.order ≡ true
  up_reached x w h = occurs_has x s.order (omega (arith, above_occurs s.labels x s.order w, has_occurs x (up s w) h))

  -- who has a site above is settled
  pub up_settled : (x w : ℕ) → has x (up s w) ≡ true → has w s.order ≡ true
  up_settled x w h =
      true_from_ne_false (has w s.order) (λ f. both_ways (has x (up s w)) (ap (has x) (up_none w f)) h)

  -- a settled site is above itself
  pub up_self : (w : ℕ) → has w s.order ≡ true → has w (up s w) ≡ true
  up_self w h = grind (arith, up_root, has_head, up_other)

  -- who is above the parent is above the site
  pub up_more : (x w : ℕ) → has w s.order ≡ true → (w ≡ root → ⊥) → has x (up s (parent s.labels w)) ≡ true → has x (up s w) ≡ true
  up_more x w h n t = ap (has x) (up_other w h n) ∙ has_tail x w (up s (parent s.labels w)) t

  -- who is above a site is the site, or above its parent
  pub up_cases : (x w : ℕ) → has x (up s w) ≡ true → (x ≡ w) ⊎ ((w ≡ root → ⊥) × (has x (up s (parent s.labels w)) ≡ true))
  up_cases x w h = grind (arith, has_cases, up_root, up_other, up_settled)

  -- the root is above every settled site
  pub up_has_root : (w : ℕ) → has w s.order ≡ true → has root (up s w) ≡ true
  up_has_root w h =
      by_parents (λ z. has root (up s z) ≡ true) (up_self root root_reached)
      (λ z hz n ih. up_more root z hz n ih) w h

  -- those above a site end in the root
  pub up_ends : (w : ℕ) → has w s.order ≡ true → (front : List ℕ) × (up s w ≡ front ++ root ∷ [])
  up_ends w h =
      by_parents (λ z. (front : List ℕ) × (up s z ≡ front ++ root ∷ [])) ([], up_root)
      (λ z hz n ih. (z ∷ ih.0, up_other z hz n ∙ ap (λ us. z ∷ us) ih.1)) w h

  -- above is transitive
  pub up_trans : (a b c : ℕ) → has a (up s b) ≡ true → has b (up s c) ≡ true → has a (up s c) ≡ true
  up_trans a b c hab hbc =
      by_parents (λ z. has b (up s z) ≡ true → has a (up s z) ≡ true)
      (λ h. elim (up_cases b root h) [
        | inl e ↦ subst (λ z. has a (up s z) ≡ true) e hab
        | inr t ↦ absurd (t.0 refl)
      ])
      (λ z hz n ih h. grind (arith, up_cases, up_more)) c (up_settled b c hbc) hbc

  -- no site is above its parent
  pub up_parent_lacks : (w : ℕ) → has w s.order ≡ true → (w ≡ root → ⊥) → has w (up s (parent s.labels w)) ≡ false
  up_parent_lacks w h n =
      occurs_lacks w (up s (parent s.labels w)) (omega (arith, up_once w w, ap (occurs w) (up_other w h n), hit_self w))

  -- two sites above each other are one
  pub up_antisym : (a b : ℕ) → has a (up s b) ≡ true → has b (up s a) ≡ true → a ≡ b
  up_antisym a b h g =
      elim (up_cases a b h) [
        | inl e ↦ e
        | inr t ↦ absurd (both_ways (has b (up s (parent s.labels b))) (up_parent_lacks b (up_settled a b h) t.0) (up_trans b a (parent s.labels b) g t.1))
      ]
