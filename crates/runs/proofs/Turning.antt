-- A run turn by turn: what each turn needs, and that nothing changes once nothing is left.
use Rattle.std.proofs.Common.{◌≡◌, ℕ, zero, suc, ◌<◌, ◌≤◌, true, List, [], ◌∷◌, ◌++◌, length, Some, None, Option, sym, refl, ap, ◌∙◌, subst, inl, inr, arith}
use Rattle.std.proofs.lemmas.Bool.{cases_lt}
use Rattle.costs.specs.Costs.{Ops, Laws, Le, worked}
use Rattle.costs.proofs.Order.{le_same}
use Rattle.least_pairs.specs.Runs.{Label, Job, State, has, settled, run, begun, least, outcome}
use Rattle.least_pairs.specs.Laws.{Moment}
use Rattle.least_pairs.proofs.Moments.{has_here, has_cases, has_there, has_after, occurs_has, few}
use Rattle.least_pairs.proofs.Choosing.{Next, Choice, chooses}
use Rattle.least_pairs.proofs.Running.{SoundJob, Running, one_label, one_settled}
use Rattle.least_pairs.proofs.Finishing.{runs}
use Rattle.runs.specs.Turns.{Runnable, Turn}
use Rattle.runs.proofs.Spending.{keeps}

-- a job that can be run is sound
pub sound : {C : Type 0} {k : Ops C} {j : Job C} {root : ℕ} → Runnable k j root → SoundJob k j root
sound r = record { begins = r.begins; ends = r.ends; adds = r.adds }

-- one state is reached from another: its order goes on from there, and the settled sites keep their labels
record Reached {C : Type 0} (s t : State C) : Type 0 where
  later : List ℕ
  whole : t.order ≡ later ++ s.order
  stays : (x : ℕ) (l : Label C) → has x s.order ≡ true → s.labels x ≡ Some l → t.labels x ≡ Some l

module _ {C : Type 0} {k : Ops C} (laws : Laws k) (j : Job C) (root : ℕ) (can : Runnable k j root) where
  -- the state after some turns
  abbrev after : ℕ → State C
  after i = run k j i (begun k root)

  -- the choice of a turn
  pub next_of : (i y : ℕ) (c : C) → least k (after i) j.sites ≡ Some (y, c) → Next k (after i) j.sites y c
  next_of i y c e = subst (λ o. Choice k (after i) j.sites o) e (chooses laws (after i) j.sites)

  -- no settled site costs more than the next
  low_of : (s : State C) → Running k j root s → (y : ℕ) (c : C) → Next k s j.sites y c → (x : ℕ) → has x (y ∷ s.order) ≡ true → (l : Label C) × (s.labels x ≡ Some l) × Le k l.cost c
  low_of s r y c n x h =
      elim (has_cases x y s.order h) [
        | inl q ↦ (n.label, subst (λ z. s.labels z ≡ Some n.label) (sym q) n.labelled, le_same laws n.costs)
        | inr g ↦
            let l = r.has_label x g in
            (l.0, l.1, subst (λ z. Le k l.0.cost z) n.costs (r.frontier x y g n.unsettled l.0 n.label l.1 n.labelled))
      ]

  -- one turn on
  reached_more : (s t : State C) → Reached s t → Running k j root t → (o : Option (ℕ × C)) → Choice k t j.sites o → Reached s (settled k j t o)
  reached_more s t a r None h = a
  reached_more s t a r (Some b) h = record {
    later = b.0 ∷ a.later;
    whole = ap (λ z. b.0 ∷ z) a.whole;
    stays = λ x l settled_x is.
        let in_t : has x t.order ≡ true = subst (λ z. has x z ≡ true) (sym a.whole) (has_after x a.later s.order settled_x) in
        let was = a.stays x l settled_x is in
        let m = low_of t r b.0 b.1 h x (has_there x b.0 t.order in_t) in
        keeps laws j t.labels b.0 b.1 t.order j.links (λ e. can.adds b.0 t.order e) x l was (subst (λ z. Le k z.cost b.1) (one_label m.1 was) m.2);
  }

  -- the state after more turns is reached from that after fewer
  reached : (i n : ℕ) → i ≤ n → Reached (after i) (after n)
  reached i zero h =
      let none : i ≡ 0 = omega arith in
      subst (λ z. Reached (after z) (after 0)) (sym none) (record { later = []; whole = refl; stays = λ x l g is. is })
  reached i (suc n) h =
      elim (cases_lt n i) [
        | inl g ↦
            let all : i ≡ suc n = omega arith in
            subst (λ z. Reached (after z) (after (suc n))) (sym all) (record { later = []; whole = refl; stays = λ x l g is. is })
        | inr g ↦ reached_more (after i) (after n) (reached i n g) (runs laws j root (sound can) n) (least k (after n) j.sites) (chooses laws (after n) j.sites)
      ]

  -- a turn that settles a site leaves as many settled as there are sites at most
  pub room : (i y : ℕ) (c : C) → least k (after i) j.sites ≡ Some (y, c) → length (after i).order < j.sites
  room i y c e =
      let more = one_settled laws j root (sound can) (after i) (runs laws j root (sound can) i) y c (next_of i y c e) in
      let most = few j.sites (y ∷ (after i).order) more.once (λ w some.
      let l = more.has_label w (occurs_has w (y ∷ (after i).order) some) in more.labelled w l.0 l.1) in
      omega arith

  -- one turn more
  pub after_more : (i y : ℕ) (c : C) → least k (after i) j.sites ≡ Some (y, c) → after (suc i) ≡ settled k j (after i) (Some (y, c))
  after_more i y c e = ap (λ o. settled k j (after i) o) e

  -- what a turn needs
  pub turn_of : (i y : ℕ) (c : C) → i < j.sites → least k (after i) j.sites ≡ Some (y, c) → Turn k j (after i).labels y c (after i).order
  turn_of i y c below e =
      let n = next_of i y c e in
      let r = runs laws j root (sound can) i in
      let on = reached (suc i) j.sites below in
      let step = after_more i y c e in
      let order_is : (after (suc i)).order ≡ y ∷ (after i).order = ap (λ s. s.order) step in
      let newest : has y (after (suc i)).order ≡ true = subst (λ z. has y z ≡ true) (sym order_is) (has_here y (after i).order) in
      let kept : (after (suc i)).labels y ≡ Some n.label =
      ap (λ s. s.labels y) step ∙ keeps laws j (after i).labels y c (after i).order j.links (λ f. can.adds y (after i).order f) y n.label n.labelled (le_same laws n.costs) in
      let final : (outcome k j root).labels y ≡ Some n.label = on.stays y n.label newest kept in
      let moment : Moment (outcome k j root).order y (after i).order = record { later = on.later; whole = on.whole ∙ ap (λ z. on.later ++ z) order_is } in
      record {
        site = n.below;
        left = n.unsettled;
        ends = λ f. can.ends y (after i).order f;
        adds = λ f. can.adds y (after i).order f;
        exact = λ f g cons. subst (λ z. worked k z (j.adds f) ≡ k.plus z (j.adds f)) n.costs (can.exact y (after i).order f n.label (record { moment = moment; link = g; considers = cons }) final);
        low = low_of (after i) r y c n;
      }

  -- what has a label is a site
  pub within : (i w : ℕ) (l : Label C) → (after i).labels w ≡ Some l → w < j.sites
  within i w l is = (runs laws j root (sound can) i).labelled w l is

  -- once nothing is left to settle nothing changes
  pub still : (i n : ℕ) → i ≤ n → least k (after i) j.sites ≡ None → after n ≡ after i
  still i zero h e = let none : 0 ≡ i = omega arith in ap (λ z. after z) none
  still i (suc n) h e =
      elim (cases_lt n i) [
        | inl g ↦ let all : suc n ≡ i = omega arith in ap (λ z. after z) all
        | inr g ↦
            let same = still i n g e in
            ap (λ s. settled k j s (least k s j.sites)) same ∙ ap (λ o. settled k j (after i) o) e
      ]
