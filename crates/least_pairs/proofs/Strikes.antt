-- The second run: which strike parts two sites, and what is offered then.
use Rattle.std.proofs.Common.{◌≡◌, ℕ, true, false, ◌⊎◌, List, [], ◌∷◌, ◌++◌, Some, sym, refl, ap, ◌∙◌, subst, inl, inr, append_assoc}
use Rattle.std.proofs.lemmas.Bool.{both_ways, cases_Bool}
use Rattle.costs.specs.Costs.{Ops, Laws, Le}
use Rattle.costs.proofs.Order.{le_same}
use Rattle.least_pairs.specs.Views.{View}
use Rattle.least_pairs.specs.Runs.{Label, Job, State, has}
use Rattle.least_pairs.specs.Trees.{joined}
use Rattle.least_pairs.specs.Plans.{first_job, second_job, cost_of, tree_link, reduced, up}
use Rattle.least_pairs.specs.Laws.{Moment, Considered, RunLaws}
use Rattle.least_pairs.proofs.Sight.{SoundView}
use Rattle.least_pairs.proofs.Listed.{has_head, has_right, moment_of}
use Rattle.least_pairs.proofs.Moments.{moment_before, moment_has}
use Rattle.least_pairs.proofs.Pieces.{joined_trans, joined_all, joined_parted}
use Rattle.least_pairs.proofs.Second.{second_considers}

-- two splits of one list: at one place, or one is later
pub split_cases : (xs ys : List ℕ) (x y : ℕ) (S T : List ℕ) → xs ++ x ∷ S ≡ ys ++ y ∷ T → ((x ≡ y) × (S ≡ T)) ⊎ (((mid : List ℕ) × (S ≡ mid ++ y ∷ T)) ⊎ ((mid : List ℕ) × (T ≡ mid ++ x ∷ S)))
split_cases [] [] x y S T e = inl (cc, cc)
split_cases [] (b ∷ ys) x y S T e = inr (inl (ys, cc))
split_cases (a ∷ xs) [] x y S T e = inr (inr (xs, cc))
split_cases (a ∷ xs) (b ∷ ys) x y S T e = split_cases xs ys x y S T (cc)

module _ {C : Type 0} {k : Ops C} {j : Job C} {root : ℕ} {s : State C} (laws : Laws k) (run : RunLaws k j root s) where
  -- who was settled before costs no more
  pub rising_cost : (y : ℕ) (S : List ℕ) → Moment s.order y S → (x : ℕ) → has x S ≡ true → Le k (cost_of k (s.labels x)) (cost_of k (s.labels y))
  rising_cost y S m x h =
      let l = run.has_label x (moment_before m x h) in
      let n = run.has_label y (moment_has m) in
      subst (λ c. Le k c (cost_of k (s.labels y))) (sym (ap (cost_of k) l.1))
      (subst (λ c. Le k l.0.cost c) (sym (ap (cost_of k) n.1)) (run.rising y S m x h l.0 n.0 l.1 n.1))

  -- who was not settled before costs no less
  pub later_cost : (y : ℕ) (S : List ℕ) → Moment s.order y S → (x : ℕ) → has x s.order ≡ true → has x S ≡ false → Le k (cost_of k (s.labels y)) (cost_of k (s.labels x))
  later_cost y S m x h f =
      let n = moment_of x s.order h in
      elim (split_cases m.later n.1.later y x S n.0 (sym m.whole ∙ n.1.whole)) [
        | inl e ↦ le_same laws (ap (λ z. cost_of k (s.labels z)) e.0)
        | inr (inl e) ↦ absurd (both_ways (has x S) f (ap (has x) e.1 ∙ has_right x e.0 (x ∷ n.0) (has_head x n.0)))
        | inr (inr e) ↦ rising_cost x n.0 n.1 y (ap (has y) e.1 ∙ has_right y e.0 (y ∷ S) (has_head y S))
      ]

-- the strike that parts two sites: they are joined before it and not after
pub record Parting {C : Type 0} (first second : State C) (u w x : ℕ) (S : List ℕ) : Type 0 where
  pub moment : Moment second.order x S
  pub together : joined (up first) S u w ≡ true
  pub apart : joined (up first) (x ∷ S) u w ≡ false

module _ {C : Type 0} {k : Ops C} {v : View C} {root : ℕ} {first second : State C} (laws : Laws k) (sound : SoundView k v) (tree : RunLaws k (first_job v) root first) (run : RunLaws k (second_job k v root first) root second) where
  -- reached sites that are not joined after some strikes were parted by one of them
  parted_in : (front S : List ℕ) (u w : ℕ) → second.order ≡ front ++ S → has u first.order ≡ true → has w first.order ≡ true → joined (up first) S u w ≡ false → (x : ℕ) × (T : List ℕ) × Parting first second u w x T
  parted_in front [] u w e hu hw h = absurd (both_ways (joined (up first) [] u w) h (joined_all tree u w hu hw))
  parted_in front (y ∷ S) u w e hu hw h =
      elim (cases_Bool (joined (up first) S u w)) [
        | inl t ↦ (y, S, record { moment = record { later = front; whole = e }; together = t; apart = h })
        | inr f ↦ parted_in (front ++ y ∷ []) S u w (e ∙ sym (append_assoc front (y ∷ []) S)) hu hw f
      ]

  -- reached sites that are not joined in the end were parted
  pub parted : (u w : ℕ) → has u first.order ≡ true → has w first.order ≡ true → joined (up first) second.order u w ≡ false → (x : ℕ) × (T : List ℕ) × Parting first second u w x T
  parted u w hu hw h = parted_in [] second.order u w refl hu hw h

  -- a usable link that is no tree link, whose ends are parted by a strike that is not its end, was considered at that strike
  pub parting_considered : (e x : ℕ) (S : List ℕ) → v.usable e ≡ true → tree_link v first root e ≡ false → Parting first second (v.start e) (v.end e) x S → (v.end e ≡ x → ⊥) → Considered (second_job k v root first) second.order x S e
  parting_considered e x S h t p n =
      let a = v.start e in
      let b = v.end e in
      let xa : joined (up first) S x a ≡ true = joined_parted tree x S a b p.together p.apart in
      let xb : joined (up first) S x b ≡ true = joined_trans tree S x a b xa p.together in
      record {
        moment = p.moment;
        link = sound.link e h;
        considers = second_considers k v root first x S e (record {
          usable = h;
          no_tree = t;
          start_in = xa;
          end_in = xb;
          other = n;
          parts = inr p.apart;
        });
      }

  -- so it labels its end, at no more than the strike's cost and its reduced cost
  pub parting_offers : (e x : ℕ) (S : List ℕ) → v.usable e ≡ true → tree_link v first root e ≡ false → Parting first second (v.start e) (v.end e) x S → (v.end e ≡ x → ⊥) → (m : Label C) × (second.labels (v.end e) ≡ Some m) × Le k m.cost (k.plus (cost_of k (second.labels x)) (reduced k v first e))
  parting_offers e x S h t p n =
      let l = run.has_label x (moment_has p.moment) in
      let o = run.offers x S e (parting_considered e x S h t p n) l.0 l.1 in
      (o.0, o.1, subst (λ c. Le k o.0.cost (k.plus c (reduced k v first e))) (sym (ap (cost_of k) l.1)) o.2)
