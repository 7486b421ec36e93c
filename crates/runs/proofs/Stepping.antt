-- One link more: what it leaves of the labels and of what is left to settle.
use Rattle.std.proofs.Common.{◌≡◌, ℕ, ◌+◌, ◌<◌, ◌≤◌, Bool, true, false, cond, eqb, List, ◌∷◌, reverse, take, set, Some, None, Option, sym, refl, ap, ◌∙◌, subst, inl, inr, add-one, arith}
use Rattle.std.proofs.lemmas.Bool.{cases_Bool}
use Rattle.std.proofs.lemmas.List.{take-set}
use Rattle.costs.specs.declared.kind.Cost.{Ghosts}
use Rattle.costs.specs.Costs.{Ops, Laws, worked}
use Rattle.least_pairs.specs.Runs.{Label, Job, has, improves, relabelled, offered, spread}
use Rattle.runs.specs.Offers.{offers}
use Rattle.queue.specs.declared.queues.Queue.{Queue}
use Rattle.queue.specs.Queues.{held_in}
use Rattle.runs.specs.declared.tables.RunTables.{RunTables}
use Rattle.runs.specs.Lent.{SameTables, labels_of}
use Rattle.runs.specs.Turns.{Turn, Waiting, Offering, pending}
use Rattle.runs.proofs.Spending.{open_end, pending_new}

-- partway through the links of a turn: the labels are spread over the links below e, and the queue holds what is left to settle
pub record Partway {C : Type 0} (k : Ops C) (j : Job C) (y : ℕ) (c : C) (S : List ℕ) (start labels : ℕ → Option (Label C)) {m : Ghosts C} (q : Queue C m) (e : ℕ) : Type 0 where
  pub reached : labels ≡ spread k j y c S start e
  pub waiting : Waiting k j.sites q labels (y ∷ S)

-- partway through the links of a turn that began with some tables: they are the same lent ones, and no site more is settled
pub record Turned {C : Type 0} (k : Ops C) (j : Job C) (y : ℕ) (c : C) (S : List ℕ) (start tables : RunTables C) {m : Ghosts C} (q : Queue C m) (e : ℕ) : Type 0 where
  pub same : SameTables start tables
  pub order : tables.order.now ≡ start.order.now
  pub turn : Partway k j y c S (labels_of k start) (labels_of k tables) q e

-- the same of equal tables
pub turned_same : {C : Type 0} {k : Ops C} {j : Job C} {y : ℕ} {c : C} {S : List ℕ} {start s t : RunTables C} {m : Ghosts C} {p q : Queue C m} {e : ℕ} → t ≡ s → q ≡ p → Turned k j y c S start s p e → Turned k j y c S start t q e
turned_same {C} {k} {j} {y} {c} {S} {start} {s} {t} {m} {p} {q} {e} a b h = subst (λ z. Turned k j y c S start z q e) (sym a) (subst (λ z. Turned k j y c S start s z e) (sym b) h)

-- what is the same as the same tables is the same
pub same_then : {C : Type 0} {s t u : RunTables C} → SameTables s t → SameTables t u → SameTables s u
same_then a b = record { sites = b.sites ∙ a.sites; costs = b.costs ∙ a.costs; links = b.links ∙ a.links; turns = b.turns ∙ a.turns; order = b.order ∙ a.order }

-- what a turn needs, of an equal job and an equal list
pub turn_same : {C : Type 0} {k : Ops C} {j i : Job C} {labels : ℕ → Option (Label C)} {y : ℕ} {c : C} {S T : List ℕ} → i ≡ j → T ≡ S → Turn k j labels y c S → Turn k i labels y c T
turn_same {C} {k} {j} {i} {labels} {y} {c} {S} {T} p q t = subst (λ z. Turn k z labels y c T) (sym p) (subst (λ z. Turn k j labels y c z) (sym q) t)

-- the sites before are as they were
pub order_same : (order : List ℕ) (n y : ℕ) → reverse (take n (set order n y)) ≡ reverse (take n order)
order_same order n y = ap reverse (take-set order n y)

module _ {C : Type 0} {k : Ops C} (laws : Laws k) (j : Job C) (labels : ℕ → Option (Label C)) (y : ℕ) (c : C) (S : List ℕ) (turn : Turn k j labels y c S) (e : ℕ) (below : e < j.links) where
  -- the labels before this link
  abbrev before : ℕ → Option (Label C)
  before = spread k j y c S labels e

  -- a link that offers nothing is not considered
  skips : offers j y S e ≡ None → j.considers y S e ≡ false
  skips h = from (j.considers y S e) h
    where
      from : (b : Bool) → cond {A = Option (ℕ × C)} b (Some (j.end e, j.adds e)) None ≡ None → b ≡ false
      from true g = let z : ◌≡◌ {A = ℕ} 0 1 = cc in absurd (omega arith)
      from false g = refl

  -- a link that offers something is considered, and it offers what it adds to its end
  takes : (v : ℕ) (d : C) → offers j y S e ≡ Some (v, d) → (j.considers y S e ≡ true) × (v ≡ j.end e) × (d ≡ j.adds e)
  takes v d h = from (j.considers y S e) h
    where
      from : (b : Bool) → cond {A = Option (ℕ × C)} b (Some (j.end e, j.adds e)) None ≡ Some (v, d) → (b ≡ true) × (v ≡ j.end e) × (d ≡ j.adds e)
      from true g = let q : ◌≡◌ {A = ℕ × C} (v, d) (j.end e, j.adds e) = cc in (refl, ap (λ x. x.0) q, ap (λ x. x.1) q)
      from false g = let z : ◌≡◌ {A = ℕ} 0 1 = cc in absurd (omega arith)

  -- a link that offers nothing leaves the labels
  pub skipped : offers j y S e ≡ None → spread k j y c S labels (e + 1) ≡ before
  skipped h = ap (λ n. spread k j y c S labels n) (add-one e) ∙ ap (λ b. cond b (offered k j y c e before) before) (skips h)

  -- the sum worked out is exact
  sum_is : (v : ℕ) (d : C) → offers j y S e ≡ Some (v, d) → worked k c d ≡ k.plus c (j.adds e)
  sum_is v d h = let t = takes v d h in ap (λ z. worked k c z) t.2 ∙ turn.exact e below t.0

  module _ (v : ℕ) (d : C) (h : offers j y S e ≡ Some (v, d)) (b : Bool) (answer : b ≡ improves k (worked k c d) (before v)) where
    -- the labels after an offer
    abbrev after : ℕ → Option (Label C)
    after = cond b (relabelled before v (record { cost = worked k c d; link = e; turn = y })) before

    -- an offer that is taken where it is better leaves the labels with one link more
    pub stepped : spread k j y c S labels (e + 1) ≡ after
    stepped =
        let t = takes v d h in
        let s = sum_is v d h in
        let tested : offered k j y c e before ≡ cond (improves k (worked k c d) (before v)) (relabelled before v (record { cost = worked k c d; link = e; turn = y })) before
        = λ i. cond (improves k (sym s i) (before (sym t.1 i))) (relabelled before (sym t.1 i) (record { cost = sym s i; link = e; turn = y })) before in
        ap (λ n. spread k j y c S labels n) (add-one e)
        ∙ ap (λ x. cond x (offered k j y c e before) before) t.0
        ∙ tested
        ∙ ap (λ x. cond x (relabelled before v (record { cost = worked k c d; link = e; turn = y })) before) (sym answer)

    -- a site that takes an offer is not settled
    left : b ≡ true → has v (y ∷ S) ≡ false
    left is =
        let t = takes v d h in
        let better : improves k (k.plus c (j.adds e)) (before (j.end e)) ≡ true =
        (λ i. improves k (sym (sum_is v d h) i) (before (sym t.1 i))) ∙ sym answer ∙ is in
        subst (λ z. has z (y ∷ S) ≡ false) (sym t.1) (open_end laws j labels y c S turn e below t.0 better)

    -- what is left to settle after an offer
    pub waiting : (w : ℕ) → pending after (y ∷ S) w ≡ cond b (cond (eqb w v) (Some (worked k c d)) (pending before (y ∷ S) w)) (pending before (y ∷ S) w)
    waiting w =
        elim (cases_Bool b) [
          | inl is ↦
              ap (λ x. pending (cond x (relabelled before v (record { cost = worked k c d; link = e; turn = y })) before) (y ∷ S) w) is
              ∙ pending_new laws before (y ∷ S) v (record { cost = worked k c d; link = e; turn = y }) (left is) w
              ∙ sym (ap (λ x. cond x (cond (eqb w v) (Some (worked k c d)) (pending before (y ∷ S) w)) (pending before (y ∷ S) w)) is)
          | inr is ↦
              ap (λ x. pending (cond x (relabelled before v (record { cost = worked k c d; link = e; turn = y })) before) (y ∷ S) w) is
              ∙ sym (ap (λ x. cond x (cond (eqb w v) (Some (worked k c d)) (pending before (y ∷ S) w)) (pending before (y ∷ S) w)) is)
        ]

  module _ (now_labels : ℕ → Option (Label C)) {m : Ghosts C} (p : Queue C m) (at : Partway k j y c S labels now_labels p e) where
    -- a link that is not considered leaves the turn where it is
    pub partway_skip : offers j y S e ≡ None → Partway k j y c S labels now_labels p (e + 1)
    partway_skip h = record { reached = at.reached ∙ sym (skipped h); waiting = at.waiting }

    -- a link that is considered takes the turn on
    pub partway_take : (v : ℕ) (d : C) → offers j y S e ≡ Some (v, d) → (next : ℕ → Option (Label C)) (q : Queue C m) → Offering k v (record { cost = worked k c d; link = e; turn = y }) now_labels next p q → Partway k j y c S labels next q (e + 1)
    partway_take v d h next q o =
        let b : Bool = improves k (worked k c d) (before v) in
        let tested : improves k (worked k c d) (now_labels v) ≡ b = ap (λ f. improves k (worked k c d) (f v)) at.reached in
        let spread_on : next ≡ after v d h b refl =
        o.labels ∙ (λ i. cond (tested i) (relabelled (at.reached i) v (record { cost = worked k c d; link = e; turn = y })) (at.reached i)) in
        record {
          reached = spread_on ∙ sym (stepped v d h b refl);
          waiting = record {
            room = subst (λ z. j.sites ≤ z) (sym o.room) at.waiting.room;
            waits = λ w.
                let held_before : held_in k p w ≡ pending before (y ∷ S) w = at.waiting.waits w ∙ ap (λ f. pending f (y ∷ S) w) at.reached in
                o.held w
                ∙ (λ i. cond (tested i) (cond (eqb w v) (Some (worked k c d)) (held_before i)) (held_before i))
                ∙ sym (waiting v d h b refl w)
                ∙ ap (λ f. pending f (y ∷ S) w) (sym spread_on);
          };
        }
