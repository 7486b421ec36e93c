-- The laws of a finished run determine it.
use Rattle.std.proofs.Common.{◌≡◌, ℕ, ◌<◌, ◌≤◌, true, false, ◌⊎◌, List, [], ◌∷◌, Some, None, Option, sym, refl, ap, ◌∙◌, subst, inl, inr, arith}
use Rattle.std.proofs.lemmas.Bool.{both_ways, cases_eq}
use Rattle.costs.specs.Costs.{Ops, Laws, Le}
use Rattle.costs.proofs.Order.{le_same, le_trans, le_antisym}
use Rattle.least_pairs.specs.Runs.{Label, Job, State, has}
use Rattle.least_pairs.specs.Laws.{Moment, Considered, RunLaws, Same}
use Rattle.least_pairs.proofs.Options.{some_none, some_same}
use Rattle.least_pairs.proofs.Listed.{has_cases}
use Rattle.least_pairs.proofs.Moments.{moment_has, moment_before}
use Rattle.least_pairs.proofs.Older.{Older, older_none, older_all, older_moment, moment_older, older_before, older_has, older_outward, older_inward, moment_once, moment_one, older_next, older_both}

-- sites of a list cost the same in two states
abbrev pub EqualCosts : {C : Type 0} → State C → State C → List ℕ → Type 0
EqualCosts {C} s t part = (w : ℕ) → has w part ≡ true → (l m : Label C) → s.labels w ≡ Some l → t.labels w ≡ Some m → l.cost ≡ m.cost

-- a site is offered a label at a cost by a site of an older part
pub record Offer {C : Type 0} (k : Ops C) (j : Job C) (t : State C) (part : List ℕ) (y : ℕ) (c : C) : Type 0 where
  pub turn : ℕ
  pub before : List ℕ
  pub over : ℕ
  pub label : Label C
  pub considered : Considered j t.order turn before over
  pub inside : has turn part ≡ true
  pub ends : j.end over ≡ y
  pub labelled : t.labels turn ≡ Some label
  pub costs : c ≡ k.plus label.cost (j.adds over)

-- an older part of two runs, at the same costs
pub record Agreed {C : Type 0} (s t : State C) (part : List ℕ) : Type 0 where
  pub older : Older t.order part
  pub costs : EqualCosts s t part

-- equal costs, the other way round
turned : {C : Type 0} (s t : State C) (part : List ℕ) → EqualCosts s t part → EqualCosts t s part
turned s t part h = λ w is l m a b. sym (h w is m l b a)

-- labels with equal parts are one
same_parts : {C : Type 0} (l m : Label C) → l.cost ≡ m.cost → l.link ≡ m.link → l.turn ≡ m.turn → l ≡ m
same_parts l m p q r = λ i. record { cost = p i; link = q i; turn = r i }

module _ {C : Type 0} {k : Ops C} (laws : Laws k) (j : Job C) (root : ℕ) where
  -- the site that one run settles next is offered as much in the other
  carried : (s t : State C) → RunLaws k j root s → RunLaws k j root t → (part : List ℕ) → Older t.order part → EqualCosts s t part → (y : ℕ) → Moment s.order y part → (y ≡ root → ⊥) → (m : Label C) → s.labels y ≡ Some m → Offer k j t part y m.cost
  carried s t a b part older costs y moment other m is =
      let o = a.reason y m other is in
      let in_part = a.turn_first y m other is part moment in
      let l = b.has_label m.turn (older_has older m.turn in_part) in
      let inner = older_inward (older_before moment) (a.once m.turn) in_part o.2.moment in
      record {
        turn = m.turn;
        before = o.0;
        over = m.link;
        label = l.0;
        considered = record { moment = older_outward older inner; link = o.2.link; considers = o.2.considers };
        inside = in_part;
        ends = o.3;
        labelled = l.1;
        costs = o.5 ∙ ap (λ x. k.plus x (j.adds m.link)) (costs m.turn in_part o.1 l.0 o.4 l.1);
      }

  -- the next site costs at most what another is offered, and as much only with the lower number
  at_most : (t : State C) → RunLaws k j root t → (part : List ℕ) (y z : ℕ) (c : C) → Offer k j t part y c → (has y part ≡ true → ⊥) → Moment t.order z part → (m : Label C) → t.labels z ≡ Some m → Le k m.cost c × ((z ≡ y → ⊥) → m.cost ≡ c → z < y)
  at_most t b part y z c o out moment m is =
      elim (cases_eq z y) [
        | inl q ↦
            let g = b.offers o.turn o.before o.over o.considered o.label o.labelled in
            let there : t.labels (j.end o.over) ≡ Some m = subst (λ x. t.labels x ≡ Some m) (q ∙ sym o.ends) is in
            let one : g.0 ≡ m = some_same g.1 there in
            (le_trans laws (subst (λ x. Le k x.cost (k.plus o.label.cost (j.adds o.over))) one g.2) (le_same laws (sym o.costs)), λ ne. absurd (ne q))
        | inr ne ↦
            let g = b.chosen z part m moment is o.turn o.before o.over o.label o.considered o.inside o.labelled (λ e. ne (sym e ∙ o.ends)) (λ h. out (subst (λ x. has x part ≡ true) o.ends h)) in
            (le_trans laws g.0 (le_same laws (sym o.costs)), λ _ e. subst (λ x. z < x) o.ends (g.1 (e ∙ o.costs)))
      ]

  -- the root is settled when nothing is
  root_alone : (s : State C) → RunLaws k j root s → (part : List ℕ) (y : ℕ) → Moment s.order y part → y ≡ root → part ≡ []
  root_alone s a part y moment q = moment_one (a.once root) a.root_first (subst (λ x. Moment s.order x part) q moment)

  -- any other site is settled after some
  other_later : (s : State C) → RunLaws k j root s → (y : ℕ) → Moment s.order y [] → (y ≡ root → ⊥) → ⊥
  other_later s a y moment other =
      let l = a.has_label y (moment_has moment) in
      both_ways false refl (a.turn_first y l.0 other l.1 [] moment)

  -- two runs that agree so far and go on with sites other than the root settle the same one, at the same cost
  next_agrees : (s t : State C) → RunLaws k j root s → RunLaws k j root t → (part : List ℕ) → Older t.order part → EqualCosts s t part → (y z : ℕ) → Moment s.order y part → Moment t.order z part → (y ≡ root → ⊥) → (z ≡ root → ⊥) → (l m : Label C) → s.labels y ≡ Some l → t.labels z ≡ Some m → (y ≡ z) × (l.cost ≡ m.cost)
  next_agrees s t a b part older costs y z y_moment z_moment y_other z_other l m l_is m_is =
      let here = carried s t a b part older costs y y_moment y_other l l_is in
      let there = carried t s b a part (older_before y_moment) (turned s t part costs) z z_moment z_other m m_is in
      let one = at_most t b part y z l.cost here (moment_once (a.once y) y_moment) z_moment m m_is in
      let two = at_most s a part z y m.cost there (moment_once (b.once z) z_moment) y_moment l l_is in
      let equal : l.cost ≡ m.cost = le_antisym laws two.0 one.0 in
      elim (cases_eq y z) [
        | inl q ↦ (q, equal)
        | inr ne ↦
            grind (arith)
      ]

  -- two runs that agree so far settle the same site next, at the same cost
  next_same : (s t : State C) → RunLaws k j root s → RunLaws k j root t → (part : List ℕ) → Older t.order part → EqualCosts s t part → (y z : ℕ) → Moment s.order y part → Moment t.order z part → (l m : Label C) → s.labels y ≡ Some l → t.labels z ≡ Some m → (y ≡ z) × (l.cost ≡ m.cost)
  next_same s t a b part older costs y z y_moment z_moment l m l_is m_is =
      elim (cases_eq y root) [
        | inl p ↦
            elim (cases_eq z root) [
              | inl q ↦
                  grind (arith)
              | inr q ↦ absurd (other_later t b z (subst (λ x. Moment t.order z x) (root_alone s a part y y_moment p) z_moment) q)
            ]
        | inr p ↦
            elim (cases_eq z root) [
              | inl q ↦ absurd (other_later s a y (subst (λ x. Moment s.order y x) (root_alone t b part z z_moment q) y_moment) p)
              | inr q ↦ next_agrees s t a b part older costs y z y_moment z_moment p q l m l_is m_is
            ]
      ]
    where
      root_cost : (u : State C) → RunLaws k j root u → (n : Label C) → u.labels root ≡ Some n → n.cost ≡ k.zero
      root_cost u h n is = ap (λ x. x.cost) (some_same is h.root_label)

  -- one run does not end where another goes on
  goes_on : (s t : State C) → RunLaws k j root s → RunLaws k j root t → (part : List ℕ) → Older t.order part → EqualCosts s t part → (y : ℕ) → Moment s.order y part → t.order ≡ part → ⊥
  goes_on s t a b part older costs y moment ended =
      let out : has y part ≡ true → ⊥ = moment_once (a.once y) moment in
      let l = a.has_label y (moment_has moment) in
      elim (cases_eq y root) [
        | inl q ↦ out (subst (λ x. has y x ≡ true) ended (subst (λ x. has x t.order ≡ true) (sym q) (moment_has b.root_first)))
        | inr other ↦
            let o = carried s t a b part older costs y moment other l.0 l.1 in
            let g = b.offers o.turn o.before o.over o.considered o.label o.labelled in
            out (subst (λ x. has y x ≡ true) ended (b.is_settled y g.0 (subst (λ x. t.labels x ≡ Some g.0) o.ends g.1)))
      ]

  -- one site more on which two runs agree
  agrees_more : (s t : State C) → RunLaws k j root s → RunLaws k j root t → (part : List ℕ) (y : ℕ) → Moment s.order y part → Agreed s t part → Agreed s t (y ∷ part)
  agrees_more s t a b part y moment h =
      elim (older_next h.older) [
        | inl ended ↦ absurd (goes_on s t a b part h.older h.costs y moment ended)
        | inr z ↦
            let m = b.has_label z.0 (moment_has z.1) in
            let l = a.has_label y (moment_has moment) in
            let n = next_same s t a b part h.older h.costs y z.0 moment z.1 l.0 m.0 l.1 m.1 in
            record {
              older = older_moment (subst (λ x. Moment t.order x part) (sym n.0) z.1);
              costs = λ w in_more f g f_is g_is.
                  grind (arith, has_cases, next_same, h.costs);
            }
      ]

  -- every older part of one run is one of the other, at the same costs
  agrees : (s t : State C) → RunLaws k j root s → RunLaws k j root t → (part : List ℕ) → Older s.order part → Agreed s t part
  agrees s t a b [] older = record { older = older_none t.order; costs = λ w h. absurd (both_ways false refl h) }
  agrees s t a b (y ∷ part) older =
      agrees_more s t a b part y (moment_older older) (agrees s t a b part (older_before (moment_older older)))

  -- the orders are one
  orders_same : (s t : State C) → RunLaws k j root s → RunLaws k j root t → s.order ≡ t.order
  orders_same s t a b =
      older_both (agrees t s b a t.order (older_all t.order)).older (agrees s t a b s.order (older_all s.order)).older

  -- of two labels of a site the second has an earlier turn, or the same and no higher link
  no_later : (s t : State C) → RunLaws k j root s → RunLaws k j root t → (w : ℕ) (l m : Label C) → (w ≡ root → ⊥) → s.labels w ≡ Some l → t.labels w ≡ Some m → (S : List ℕ) × Moment s.order l.turn S × ((has m.turn S ≡ true) ⊎ ((l.turn ≡ m.turn) × (m.link ≤ l.link)))
  no_later s t a b w l m other l_is m_is =
      let o = a.reason w l other l_is in
      let same = orders_same s t a b in
      let equal = (agrees s t a b s.order (older_all s.order)).costs in
      let turn_in = moment_has o.2.moment in
      let n = b.has_label l.turn (subst (λ x. has l.turn x ≡ true) same turn_in) in
      let considered = subst (λ x. Considered j x l.turn o.0 l.link) same o.2 in
      let costs : m.cost ≡ k.plus n.0.cost (j.adds l.link) =
      sym (equal w (a.is_settled w l l_is) l m l_is m_is) ∙ o.5 ∙ ap (λ x. k.plus x (j.adds l.link)) (equal l.turn turn_in o.1 n.0 o.4 n.1) in
      (o.0, o.2.moment, b.earliest w m other m_is l.turn o.0 l.link n.0 considered o.3 n.1 costs)

  -- the labels of a site other than the root are one
  labels_same : (s t : State C) → RunLaws k j root s → RunLaws k j root t → (w : ℕ) (l m : Label C) → (w ≡ root → ⊥) → s.labels w ≡ Some l → t.labels w ≡ Some m → l ≡ m
  labels_same s t a b w l m other l_is m_is =
      let costs = (agrees s t a b s.order (older_all s.order)).costs w (a.is_settled w l l_is) l m l_is m_is in
      let one = no_later s t a b w l m other l_is m_is in
      let two = no_later t s b a w m l other m_is l_is in
      let m_moment : Moment s.order m.turn two.0 = subst (λ x. Moment x m.turn two.0) (sym (orders_same s t a b)) two.1 in
      elim one.2 [
        | inl p ↦
            elim two.2 [
              | inl q ↦ absurd (moment_once (a.once l.turn) one.1 (moment_before (older_inward (older_before one.1) (a.once m.turn) p m_moment) l.turn q))
              | inr q ↦ absurd (moment_once (a.once l.turn) one.1 (subst (λ x. has x one.0 ≡ true) q.0 p))
            ]
        | inr p ↦
            elim two.2 [
              | inl q ↦ absurd (moment_once (a.once m.turn) m_moment (subst (λ x. has x two.0 ≡ true) p.0 q))
              | inr q ↦ same_parts l m costs (omega (arith, p.1, q.1)) p.0
            ]
      ]

  -- a site that has no label in one run has none in the other
  no_label : (s t : State C) → RunLaws k j root s → RunLaws k j root t → (w : ℕ) (m : Label C) → s.labels w ≡ None → t.labels w ≡ Some m → ⊥
  no_label s t a b w m none is = grind (arith, orders_same, some_none)

  -- the labels of a site in two runs are one, or it has none in either
  labels_agree : (s t : State C) → RunLaws k j root s → RunLaws k j root t → (w : ℕ) (o p : Option (Label C)) → s.labels w ≡ o → t.labels w ≡ p → o ≡ p
  labels_agree s t a b w None None e f = refl
  labels_agree s t a b w None (Some m) e f = absurd (no_label s t a b w m e f)
  labels_agree s t a b w (Some l) None e f = absurd (no_label t s b a w l f e)
  labels_agree s t a b w (Some l) (Some m) e f = grind (arith, labels_same)

-- the laws determine the outcome
pub laws_determine : {C : Type 0} {k : Ops C} {j : Job C} {root : ℕ} → Laws k → (s t : State C) → RunLaws k j root s → RunLaws k j root t → Same s t
laws_determine {C} {k} {j} {root} laws s t a b = record {
  order = orders_same laws j root s t a b;
  labels = λ w. labels_agree laws j root s t a b w (s.labels w) (t.labels w) refl refl;
}
