-- What is left to settle as a site spreads its label, and when nothing is left.
use Rattle.std.proofs.Common.{◌≡◌, ℕ, ◌<◌, ◌≤◌, Bool, true, false, cond, eqb, List, ◌∷◌, Some, None, Option, sym, refl, ap, ◌∙◌, subst, inl, inr, arith}
use Rattle.std.proofs.lemmas.Bool.{eq-eqb, ne_eqb, cases_eq, cases_Bool}
use Rattle.costs.specs.Costs.{Ops, Laws, Le, Lt}
use Rattle.costs.proofs.Order.{le_trans, le_not_lt, le_plus_right, le_antisym}
use Rattle.least_pairs.specs.Runs.{Label, Job, State, has, improves, relabelled, spread, least}
use Rattle.least_pairs.proofs.Spreading.{spreads}
use Rattle.least_pairs.proofs.Choosing.{Choice, chooses}
use Rattle.runs.specs.Turns.{Turn, costed, pending}

module _ {C : Type 0} {k : Ops C} (laws : Laws k) where
  -- while a site spreads its label those of settled sites stay
  pub keeps : (j : Job C) (labels : ℕ → Option (Label C)) (y : ℕ) (c : C) (S : List ℕ) (n : ℕ) → ((e : ℕ) → e < n → j.considers y S e ≡ true → Le k k.zero (j.adds e)) → (w : ℕ) (l : Label C) → labels w ≡ Some l → Le k l.cost c → spread k j y c S labels n w ≡ Some l
  keeps j labels y c S n adds w l is low =
      elim (spreads laws j y c S labels n w) [
        | inl a ↦ a.same ∙ is
        | inr a ↦ absurd (le_not_lt laws (le_trans laws low (le_plus_right laws c (adds a.over a.below a.considers))) (a.lower l is))
      ]

  module _ (j : Job C) (labels : ℕ → Option (Label C)) (y : ℕ) (c : C) (S : List ℕ) (turn : Turn k j labels y c S) where
    -- a site whose label is improved is not settled
    pub open_end : (e : ℕ) → e < j.links → j.considers y S e ≡ true → improves k (k.plus c (j.adds e)) (spread k j y c S labels e (j.end e)) ≡ true → has (j.end e) (y ∷ S) ≡ false
    open_end e below cons better =
        elim (cases_Bool (has (j.end e) (y ∷ S))) [
          | inr h ↦ h
          | inl h ↦
              let l = turn.low (j.end e) h in
              let same = keeps j labels y c S e (λ f g. turn.adds f (omega arith)) (j.end e) l.0 l.1 l.2 in
              let less : Lt k (k.plus c (j.adds e)) l.0.cost = subst (λ o. improves k (k.plus c (j.adds e)) o ≡ true) same better in
              absurd (le_not_lt laws (le_trans laws l.2 (le_plus_right laws c (turn.adds e below cons))) less)
        ]

  -- a new label of a site that is not settled
  pub pending_new : (labels : ℕ → Option (Label C)) (order : List ℕ) (v : ℕ) (l : Label C) → has v order ≡ false → (w : ℕ) → pending (relabelled labels v l) order w ≡ cond (eqb w v) (Some l.cost) (pending labels order w)
  pending_new labels order v l left w =
      elim (cases_eq w v) [
        | inl q ↦
            let here : eqb w v ≡ true = eq-eqb w v q in
            let out : has w order ≡ false = subst (λ z. has z order ≡ false) (sym q) left in
            ap (λ b. cond b None (costed (relabelled labels v l w))) out
            ∙ ap (λ b. costed (cond b (Some l) (labels w))) here
            ∙ sym (ap (λ b. cond b (Some l.cost) (pending labels order w)) here)
        | inr q ↦
            let there : eqb w v ≡ false = ne_eqb w v q in
            ap (λ b. cond (has w order) None (costed (cond b (Some l) (labels w)))) there
            ∙ sym (ap (λ b. cond b (Some l.cost) (pending labels order w)) there)
      ]

  -- a site left to settle has a label and is not settled
  pub pending_some : (labels : ℕ → Option (Label C)) (order : List ℕ) (w : ℕ) (c : C) → pending labels order w ≡ Some c → (has w order ≡ false) × ((l : Label C) × (labels w ≡ Some l) × (l.cost ≡ c))
  pending_some labels order w c h = pending_from (has w order) (labels w) c h
    where
      pending_from : (b : Bool) (o : Option (Label C)) (d : C) → cond b None (costed o) ≡ Some d → (b ≡ false) × ((l : Label C) × (o ≡ Some l) × (l.cost ≡ d))
      pending_from true o d h = let z : ◌≡◌ {A = ℕ} 0 1 = cc in absurd (omega arith)
      pending_from false None d h = let z : ◌≡◌ {A = ℕ} 0 1 = cc in absurd (omega arith)
      pending_from false (Some l) d h = (refl, (l, refl, cc))

  -- a site that has a label and is not settled is left to settle
  pub pending_is : (labels : ℕ → Option (Label C)) (order : List ℕ) (w : ℕ) (l : Label C) → has w order ≡ false → labels w ≡ Some l → pending labels order w ≡ Some l.cost
  pending_is labels order w l left is = ap (λ b. cond b None (costed (labels w))) left ∙ ap costed is

  -- the least of what is left to settle is the one that is settled next
  pub picks : (s : State C) (n y : ℕ) (c : C) → ((w : ℕ) (l : Label C) → s.labels w ≡ Some l → w < n) → pending s.labels s.order y ≡ Some c → ((w : ℕ) (d : C) → pending s.labels s.order w ≡ Some d → Le k c d × (c ≡ d → y ≤ w)) → least k s n ≡ Some (y, c)
  picks s n y c within is first = picked (least k s n) (chooses laws s n)
    where
      facts : (has y s.order ≡ false) × ((l : Label C) × (s.labels y ≡ Some l) × (l.cost ≡ c))
      facts = pending_some s.labels s.order y c is

      picked : (o : Option (ℕ × C)) → Choice k s n o → o ≡ Some (y, c)
      picked None spent = absurd (spent y (within y facts.1.0 facts.1.1) facts.0 facts.1.0 facts.1.1)
      picked (Some b) next =
          let theirs = next.least y (within y facts.1.0 facts.1.1) facts.0 facts.1.0 facts.1.1 in
          let ours = first b.0 b.1 (pending_is s.labels s.order b.0 next.label next.unsettled next.labelled ∙ ap Some next.costs) in
          let same : b.1 ≡ c = le_antisym laws (subst (λ z. Le k b.1 z) facts.1.2 theirs.0) ours.0 in
          let low : b.0 ≤ y = theirs.1 (same ∙ sym facts.1.2) in
          let high : y ≤ b.0 = ours.1 (sym same) in
          let place : b.0 ≡ y = omega arith in
          ap Some (λ i. (place i, same i))

  -- where nothing is left to settle there is no next
  pub picks_none : (s : State C) (n : ℕ) → ((w : ℕ) → pending s.labels s.order w ≡ None) → least k s n ≡ None
  picks_none s n spent = picked (least k s n) (chooses laws s n)
    where
      picked : (o : Option (ℕ × C)) → Choice k s n o → o ≡ None
      picked None h = refl
      picked (Some b) next =
          let is : pending s.labels s.order b.0 ≡ Some next.label.cost = pending_is s.labels s.order b.0 next.label next.unsettled next.labelled in
          let out = spent b.0 in
          let z : ◌≡◌ {A = ℕ} 0 1 = cc in absurd (omega arith)
