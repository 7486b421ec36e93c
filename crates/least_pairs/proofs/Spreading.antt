-- What a settled site leaves of the labels, link by link.
use Rattle.std.proofs.Common.{◌≡◌, ℕ, zero, suc, ◌<◌, ◌≤◌, true, false, cond, ◌⊎◌, List, Some, None, Option, sym, refl, ap, ◌∙◌, subst, inl, inr, arith}
use Rattle.std.proofs.lemmas.Bool.{both_ways, cases_Bool, cases_eq}
use Rattle.costs.specs.Costs.{Ops, Laws, Le, Lt}
use Rattle.costs.proofs.Order.{lt_le, lt_trans, lt_le_trans, le_trans, lt_self, le_not_lt, le_plus_right, le_same}
use Rattle.least_pairs.proofs.Moments.{below_cases}
use Rattle.least_pairs.specs.Runs.{Label, Job, improves, relabelled, offered, spread}

-- the label that a link offers to its end
abbrev pub given : {C : Type 0} → Ops C → Job C → ℕ → C → ℕ → Label C
given k j y c e = record { cost = k.plus c (j.adds e); link = e; turn = y }

-- a site keeps its label while links below a number are considered: none of those that end there offers less
pub record Kept {C : Type 0} (k : Ops C) (j : Job C) (y : ℕ) (c : C) (S : List ℕ) (labels : ℕ → Option (Label C)) (n w : ℕ) : Type 0 where
  pub same : spread k j y c S labels n w ≡ labels w
  pub low : (f : ℕ) → f < n → j.considers y S f ≡ true → j.end f ≡ w → (m : Label C) × (labels w ≡ Some m) × Le k m.cost (k.plus c (j.adds f))

-- a site gets a new label: over the link that offers least, of equals the lowest, and less than the label before
pub record Renewed {C : Type 0} (k : Ops C) (j : Job C) (y : ℕ) (c : C) (S : List ℕ) (labels : ℕ → Option (Label C)) (n w : ℕ) : Type 0 where
  pub over : ℕ
  pub below : over < n
  pub considers : j.considers y S over ≡ true
  pub ends : j.end over ≡ w
  pub label : spread k j y c S labels n w ≡ Some (given k j y c over)
  pub lower : (l : Label C) → labels w ≡ Some l → Lt k (k.plus c (j.adds over)) l.cost
  pub low : (f : ℕ) → f < n → j.considers y S f ≡ true → j.end f ≡ w → Le k (k.plus c (j.adds over)) (k.plus c (j.adds f)) × (k.plus c (j.adds over) ≡ k.plus c (j.adds f) → over ≤ f)

-- a cost that improves a label is less than it
improves_lt : {C : Type 0} (k : Ops C) (c : C) (o : Option (Label C)) (l : Label C) → improves k c o ≡ true → o ≡ Some l → Lt k c l.cost
improves_lt k c o l h e = subst (λ x. improves k c x ≡ true) e h

-- a cost that improves nothing meets a label that is at most as much
improves_not : {C : Type 0} (k : Ops C) (c : C) (o : Option (Label C)) → improves k c o ≡ false → (m : Label C) × (o ≡ Some m) × Le k m.cost c
improves_not k c None h = absurd (both_ways true h refl)
improves_not k c (Some m) h = (m, refl, h)

module _ {C : Type 0} {k : Ops C} (laws : Laws k) (j : Job C) (y : ℕ) (c : C) where
  -- an offer leaves the labels of other sites
  offered_other : (e w : ℕ) (labels : ℕ → Option (Label C)) → (j.end e ≡ w → ⊥) → offered k j y c e labels w ≡ labels w
  offered_other e w labels other = grind arith

  -- a better offer is taken
  offered_better : (e w : ℕ) (labels : ℕ → Option (Label C)) → j.end e ≡ w → improves k (k.plus c (j.adds e)) (labels w) ≡ true → offered k j y c e labels w ≡ Some (given k j y c e)
  offered_better e w labels ends h = grind arith

  -- another offer is not
  offered_worse : (e w : ℕ) (labels : ℕ → Option (Label C)) → j.end e ≡ w → improves k (k.plus c (j.adds e)) (labels w) ≡ false → offered k j y c e labels w ≡ labels w
  offered_worse e w labels ends h =
      ap (λ b. (cond b (relabelled labels (j.end e) (given k j y c e)) labels) w) (ap (λ z. improves k (k.plus c (j.adds e)) (labels z)) ends ∙ h)

  module _ (S : List ℕ) (labels : ℕ → Option (Label C)) where
    -- a link that changes nothing at a site
    passed : (e w : ℕ)
        → spread k j y c S labels (suc e) w ≡ spread k j y c S labels e w
        → (j.considers y S e ≡ true → j.end e ≡ w → (m : Label C) × (spread k j y c S labels e w ≡ Some m) × Le k m.cost (k.plus c (j.adds e)))
        → Kept k j y c S labels e w ⊎ Renewed k j y c S labels e w
        → Kept k j y c S labels (suc e) w ⊎ Renewed k j y c S labels (suc e) w
    passed e w same met (inl a) =
        inl (record {
          same = same ∙ a.same;
          low = λ f h cons ends.
              elim (below_cases f e h) [
                | inl l ↦ a.low f l cons ends
                | inr q ↦
                    let r = met (subst (λ z. j.considers y S z ≡ true) q cons) (subst (λ z. j.end z ≡ w) q ends) in
                    (r.0, sym a.same ∙ r.1, subst (λ z. Le k r.0.cost (k.plus c (j.adds z))) (sym q) r.2)
              ];
        })
    passed e w same met (inr a) =
        inr (record {
          over = a.over;
          below = omega (arith, a.below);
          considers = a.considers;
          ends = a.ends;
          label = same ∙ a.label;
          lower = a.lower;
          low = λ f h cons ends.
              grind (arith, below_cases, a.low);
        })

    -- a link that gives a site a new label
    renewed : (e w : ℕ)
        → j.considers y S e ≡ true
        → j.end e ≡ w
        → spread k j y c S labels (suc e) w ≡ Some (given k j y c e)
        → improves k (k.plus c (j.adds e)) (spread k j y c S labels e w) ≡ true
        → Kept k j y c S labels e w ⊎ Renewed k j y c S labels e w
        → Renewed k j y c S labels (suc e) w
    renewed e w cons ends label better (inl a) =
        let less : (l : Label C) → labels w ≡ Some l → Lt k (k.plus c (j.adds e)) l.cost = λ l is. improves_lt k (k.plus c (j.adds e)) (spread k j y c S labels e w) l better (a.same ∙ is) in
        record {
          over = e;
          below = omega arith;
          considers = cons;
          ends = ends;
          label = label;
          lower = less;
          low = λ f h fcons fends.
              elim (below_cases f e h) [
                | inl l ↦
                    let r = a.low f l fcons fends in
                    let t = lt_le_trans laws (less r.0 r.1) r.2 in
                    (lt_le laws t, λ q. absurd (lt_self laws (subst (λ z. Lt k z (k.plus c (j.adds f))) q t)))
                | inr q ↦ (le_same laws (ap (λ z. k.plus c (j.adds z)) (sym q)), λ _. omega arith)
              ];
        }
    renewed e w cons ends label better (inr a) =
        let less : Lt k (k.plus c (j.adds e)) (k.plus c (j.adds a.over)) = improves_lt k (k.plus c (j.adds e)) (spread k j y c S labels e w) (given k j y c a.over) better a.label in
        record {
          over = e;
          below = omega arith;
          considers = cons;
          ends = ends;
          label = label;
          lower = λ l is. lt_trans laws less (a.lower l is);
          low = λ f h fcons fends.
              grind (arith, below_cases, lt_le_trans laws, lt_le laws, lt_self laws, le_same laws, a.low);
        }

    -- one link more at a site
    one_more : (e w : ℕ) → Kept k j y c S labels e w ⊎ Renewed k j y c S labels e w → Kept k j y c S labels (suc e) w ⊎ Renewed k j y c S labels (suc e) w
    one_more e w a =
        let before : ℕ → Option (Label C) = spread k j y c S labels e in
        elim (cases_Bool (j.considers y S e)) [
          | inr skip ↦ passed e w (ap (λ b. (cond b (offered k j y c e before) before) w) skip) (λ cons. absurd (both_ways (j.considers y S e) skip cons)) a
          | inl cons ↦
              let step : spread k j y c S labels (suc e) w ≡ offered k j y c e before w = ap (λ b. (cond b (offered k j y c e before) before) w) cons in
              elim (cases_eq (j.end e) w) [
                | inr other ↦ passed e w (step ∙ offered_other e w before other) (λ _ ends. absurd (other ends)) a
                | inl ends ↦
                    elim (cases_Bool (improves k (k.plus c (j.adds e)) (before w))) [
                      | inl better ↦ inr (renewed e w cons ends (step ∙ offered_better e w before ends better) better a)
                      | inr worse ↦ passed e w (step ∙ offered_worse e w before ends worse) (λ _ _. improves_not k (k.plus c (j.adds e)) (before w) worse) a
                    ]
              ]
        ]

    -- at each site: its label is kept, or it is renewed
    pub spreads : (n w : ℕ) → Kept k j y c S labels n w ⊎ Renewed k j y c S labels n w
    spreads zero w = inl (record { same = refl; low = λ f h. absurd (omega arith) })
    spreads (suc e) w = one_more e w (spreads e w)

    -- a label that costs no more than the settled site's stays, where no considered link costs less than zero
    pub stays : ((e : ℕ) → e < j.links → j.considers y S e ≡ true → Le k k.zero (j.adds e)) → (w : ℕ) (l : Label C) → labels w ≡ Some l → Le k l.cost c → spread k j y c S labels j.links w ≡ Some l
    stays sound w l is low =
        elim (spreads j.links w) [
          | inl a ↦ a.same ∙ is
          | inr a ↦ absurd (le_not_lt laws (le_trans laws low (le_plus_right laws c (sound a.over a.below a.considers))) (a.lower l is))
        ]
