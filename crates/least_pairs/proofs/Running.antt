-- What holds at every moment of a run.
use Rattle.std.proofs.Common.{◌≡◌, ℕ, ◌<◌, ◌≤◌, true, false, eqb, ◌⊎◌, List, [], ◌∷◌, Some, sym, refl, ap, ◌∙◌, subst, inl, inr, arith}
use Rattle.std.proofs.lemmas.Bool.{both_ways, or_parts, false_from_ne_true}
use Rattle.costs.specs.Costs.{Ops, Laws, Le, Lt}
use Rattle.costs.specs.Counting.{occurs}
use Rattle.costs.proofs.Order.{lt_le, lt_le_trans, le_trans, lt_self, le_same, le_antisym, le_plus_right, plus_least}
use Rattle.least_pairs.specs.Runs.{Label, Job, State, has, spread}
use Rattle.least_pairs.specs.Laws.{Moment, Considered}
use Rattle.least_pairs.proofs.Listed.{lacks_occurs, has_head, has_tail, has_cases, hit_most, hit_other}
use Rattle.least_pairs.proofs.Options.{some_same}
-- the crates above cite these by the names that stand here
pub use Rattle.least_pairs.proofs.Options.{some_same as one_label}
use Rattle.least_pairs.proofs.Moments.{moment_has, moment_before, moment_more, moment_newest, moment_cases}
use Rattle.least_pairs.proofs.Spreading.{given, Kept, Renewed, spreads, stays}
use Rattle.least_pairs.proofs.Choosing.{Next}

-- a job that is sound from a root: the root is a site, and every considered link ends at a site and adds no less than zero
pub record SoundJob {C : Type 0} (k : Ops C) (j : Job C) (root : ℕ) : Type 0 where
  pub begins : root < j.sites
  pub ends : (y : ℕ) (S : List ℕ) (e : ℕ) → e < j.links → j.considers y S e ≡ true → j.end e < j.sites
  pub adds : (y : ℕ) (S : List ℕ) (e : ℕ) → e < j.links → j.considers y S e ≡ true → Le k k.zero (j.adds e)

-- where a label came from
abbrev pub Reason : {C : Type 0} → Ops C → Job C → State C → ℕ → Label C → Type 0
Reason {C} k j s w m = (S : List ℕ) × (l : Label C) × Considered j s.order m.turn S m.link × (j.end m.link ≡ w) × (s.labels m.turn ≡ Some l) × (m.cost ≡ k.plus l.cost (j.adds m.link))

-- what holds of a run so far
pub record Running {C : Type 0} (k : Ops C) (j : Job C) (root : ℕ) (s : State C) : Type 0 where
  -- the root's label costs zero
  pub root_label : s.labels root ≡ Some (record { cost = k.zero; link = 0; turn = root })
  -- nothing is settled and only the root has a label, or the root was settled first
  pub began : ((s.order ≡ []) × ((w : ℕ) (l : Label C) → s.labels w ≡ Some l → w ≡ root)) ⊎ Moment s.order root []
  -- no site is settled twice
  pub once : (w : ℕ) → occurs w s.order ≤ 1
  -- what has a label is a site, and no label costs less than zero
  pub labelled : (w : ℕ) (l : Label C) → s.labels w ≡ Some l → w < j.sites
  pub least_zero : (w : ℕ) (l : Label C) → s.labels w ≡ Some l → Le k k.zero l.cost
  -- settled sites have labels, and none that is left costs less
  pub has_label : (w : ℕ) → has w s.order ≡ true → (l : Label C) × (s.labels w ≡ Some l)
  pub frontier : (x w : ℕ) → has x s.order ≡ true → has w s.order ≡ false → (l m : Label C) → s.labels x ≡ Some l → s.labels w ≡ Some m → Le k l.cost m.cost
  -- sites were settled in the order of their costs
  pub rising : (y : ℕ) (S : List ℕ) → Moment s.order y S → (x : ℕ) → has x S ≡ true → (l m : Label C) → s.labels x ≡ Some l → s.labels y ≡ Some m → Le k l.cost m.cost
  -- every link considered so far has labelled its end
  pub offers : (y : ℕ) (S : List ℕ) (e : ℕ) → Considered j s.order y S e → (l : Label C) → s.labels y ≡ Some l → (m : Label C) × (s.labels (j.end e) ≡ Some m) × Le k m.cost (k.plus l.cost (j.adds e))
  -- every label but the root's has its reason, and a site's turn is settled before it
  pub reason : (w : ℕ) (m : Label C) → (w ≡ root → ⊥) → s.labels w ≡ Some m → Reason k j s w m
  pub turn_first : (w : ℕ) (m : Label C) → (w ≡ root → ⊥) → s.labels w ≡ Some m → (T : List ℕ) → Moment s.order w T → has m.turn T ≡ true
  -- the earliest of equal offers stays, and of one site's the lowest link
  pub earliest : (w : ℕ) (m : Label C) → (w ≡ root → ⊥) → s.labels w ≡ Some m → (y : ℕ) (S : List ℕ) (e : ℕ) (l : Label C) → Considered j s.order y S e → j.end e ≡ w → s.labels y ≡ Some l → m.cost ≡ k.plus l.cost (j.adds e) → (has m.turn S ≡ true) ⊎ ((y ≡ m.turn) × (m.link ≤ e))
  -- each site settled was the least of those offered until then
  pub chosen : (y : ℕ) (S : List ℕ) (m : Label C) → Moment s.order y S → s.labels y ≡ Some m → (z : ℕ) (R : List ℕ) (e : ℕ) (l : Label C) → Considered j s.order z R e → has z S ≡ true → s.labels z ≡ Some l → (j.end e ≡ y → ⊥) → (has (j.end e) S ≡ true → ⊥) → Le k m.cost (k.plus l.cost (j.adds e)) × (m.cost ≡ k.plus l.cost (j.adds e) → y < j.end e)

-- one site more is settled
module _ {C : Type 0} {k : Ops C} (laws : Laws k) (j : Job C) (root : ℕ) (sound : SoundJob k j root) (s : State C) (r : Running k j root s) (y : ℕ) (c : C) (n : Next k s j.sites y c) where
  -- the state after
  abbrev after : State C
  after = record { labels = spread k j y c s.order s.labels j.links; order = y ∷ s.order }

  -- each site keeps its label or gets a new one
  came : (w : ℕ) → Kept k j y c s.order s.labels j.links w ⊎ Renewed k j y c s.order s.labels j.links w
  came w = spreads laws j y c s.order s.labels j.links w

  -- a settled site has a label that costs at most as much as this one's
  low : (x : ℕ) → has x (y ∷ s.order) ≡ true → (l : Label C) × (s.labels x ≡ Some l) × Le k l.cost c
  low x h =
      elim (has_cases x y s.order h) [
        | inl q ↦ (n.label, subst (λ z. s.labels z ≡ Some n.label) (sym q) n.labelled, le_same laws n.costs)
        | inr g ↦
            let l = r.has_label x g in
            (l.0, l.1, subst (λ z. Le k l.0.cost z) n.costs (r.frontier x y g n.unsettled l.0 n.label l.1 n.labelled))
      ]

  -- the labels of settled sites stay
  was : (x : ℕ) → has x (y ∷ s.order) ≡ true → after.labels x ≡ s.labels x
  was x h = grind (arith, low, stays laws)

  -- a settled site's label after costs at most as much as this one's
  after_low : (x : ℕ) (l : Label C) → has x (y ∷ s.order) ≡ true → after.labels x ≡ Some l → Le k l.cost c
  after_low x l h is = grind (arith, low, some_same, was)

  -- this one's label after costs as much as before
  after_newest : (m : Label C) → after.labels y ≡ Some m → m.cost ≡ c
  after_newest m is = ap (λ z. z.cost) (some_same (sym (was y (has_head y s.order)) ∙ is) n.labelled) ∙ n.costs

  -- this one's label costs no less than zero
  newest_zero : Le k k.zero c
  newest_zero = subst (λ z. Le k k.zero z) n.costs (r.least_zero y n.label n.labelled)

  -- a link considered after is considered by this one, or was before
  considered_cases : (z : ℕ) (R : List ℕ) (e : ℕ) → Considered j (y ∷ s.order) z R e → ((z ≡ y) × (R ≡ s.order) × (j.considers y s.order e ≡ true)) ⊎ Considered j s.order z R e
  considered_cases z R e h =
      elim (moment_cases h.moment) [
        | inl q ↦ inl (q.0, q.1, subst (λ a. j.considers a s.order e ≡ true) q.0 (subst (λ T. j.considers z T e ≡ true) q.1 h.considers))
        | inr m ↦ inr (record { moment = m; link = h.link; considers = h.considers })
      ]

  -- a link considered before is considered after
  considered_more : {z : ℕ} {R : List ℕ} {e : ℕ} → Considered j s.order z R e → Considered j (y ∷ s.order) z R e
  considered_more h = record { moment = moment_more y h.moment; link = h.link; considers = h.considers }

  -- the label of a site settled before, from the one after
  before : (x : ℕ) (l : Label C) → has x s.order ≡ true → after.labels x ≡ Some l → s.labels x ≡ Some l
  before x l h is = sym (was x (has_tail x y s.order h)) ∙ is

  -- no site is settled twice
  once_more : (w : ℕ) → occurs w (y ∷ s.order) ≤ 1
  once_more w = grind (arith, hit_most, lacks_occurs, hit_other)

  -- every site with a label is a site of the job
  labelled_more : (w : ℕ) (l : Label C) → after.labels w ≡ Some l → w < j.sites
  labelled_more w l is = grind (arith, came)

  -- a site that is not settled after has a label that costs at least as much as this one's
  ahead : (w : ℕ) (m : Label C) → has w (y ∷ s.order) ≡ false → after.labels w ≡ Some m → Le k c m.cost
  ahead w m left is =
      elim (came w) [
        | inl a ↦
            let old : s.labels w ≡ Some m = sym a.same ∙ is in
            (n.least w (r.labelled w m old) (or_parts (eqb w y) (has w s.order) left).1 m old).0
        | inr a ↦
            subst (λ z. Le k c z.cost) (some_same a.label is) (le_plus_right laws c (sound.adds y s.order a.over a.below a.considers))
      ]

  -- no label costs less than zero
  least_zero_more : (w : ℕ) (l : Label C) → after.labels w ≡ Some l → Le k k.zero l.cost
  least_zero_more w l is =
      elim (came w) [
        | inl a ↦ r.least_zero w l (sym a.same ∙ is)
        | inr a ↦
            subst (λ z. Le k k.zero z.cost) (some_same a.label is) (plus_least laws newest_zero (sound.adds y s.order a.over a.below a.considers))
      ]

  -- sites are settled in the order of their costs
  rising_more : (z : ℕ) (S : List ℕ) → Moment (y ∷ s.order) z S → (x : ℕ) → has x S ≡ true → (l m : Label C) → after.labels x ≡ Some l → after.labels z ≡ Some m → Le k l.cost m.cost
  rising_more z S moment x h l m l_is m_is =
      elim (moment_cases moment) [
        | inl q ↦
            let settled_x = has_tail x y s.order (subst (λ T. has x T ≡ true) q.1 h) in
            le_trans laws (after_low x l settled_x l_is) (le_same laws (sym (after_newest m (subst (λ a. after.labels a ≡ Some m) q.0 m_is))))
        | inr old ↦ r.rising z S old x h l m (before x l (moment_before old x h) l_is) (before z m (moment_has old) m_is)
      ]

  -- considered links have labelled their ends
  offers_more : (z : ℕ) (S : List ℕ) (e : ℕ) → Considered j (y ∷ s.order) z S e → (l : Label C) → after.labels z ≡ Some l → (m : Label C) × (after.labels (j.end e) ≡ Some m) × Le k m.cost (k.plus l.cost (j.adds e))
  offers_more z S e h l is =
      elim (considered_cases z S e h) [
        | inl q ↦
            let costs : l.cost ≡ c = after_newest l (subst (λ a. after.labels a ≡ Some l) q.0 is) in
            elim (came (j.end e)) [
              | inl a ↦
                  let o = a.low e h.link q.2 refl in
                  (o.0, a.same ∙ o.1, subst (λ z. Le k o.0.cost (k.plus z (j.adds e))) (sym costs) o.2)
              | inr a ↦
                  (given k j y c a.over, a.label, subst (λ z. Le k (k.plus c (j.adds a.over)) (k.plus z (j.adds e))) (sym costs) (a.low e h.link q.2 refl).0)
            ]
        | inr old ↦
            let o = r.offers z S e old l (before z l (moment_has old.moment) is) in
            elim (came (j.end e)) [
              | inl a ↦ (o.0, a.same ∙ o.1, o.2)
              | inr a ↦ (given k j y c a.over, a.label, le_trans laws (lt_le laws (a.lower o.0 o.1)) o.2)
            ]
      ]

  -- every label has its reason
  reason_more : (w : ℕ) (m : Label C) → (w ≡ root → ⊥) → after.labels w ≡ Some m → Reason k j after w m
  reason_more w m other is =
      elim (came w) [
        | inl a ↦
            let o = r.reason w m other (sym a.same ∙ is) in
            (o.0, o.1, considered_more o.2, o.3, was m.turn (has_tail m.turn y s.order (moment_has o.2.moment)) ∙ o.4, o.5)
        | inr a ↦
            subst (λ z. Reason k j after w z) (some_same a.label is)
            (s.order, n.label, record { moment = moment_newest y s.order; link = a.below; considers = a.considers }, a.ends, was y (has_head y s.order) ∙ n.labelled, ap (λ z. k.plus z (j.adds a.over)) (sym n.costs))
      ]

  -- a site's turn is settled before it
  turn_first_more : (w : ℕ) (m : Label C) → (w ≡ root → ⊥) → after.labels w ≡ Some m → (T : List ℕ) → Moment (y ∷ s.order) w T → has m.turn T ≡ true
  turn_first_more w m other is T moment =
      elim (moment_cases moment) [
        | inl q ↦
            let old : s.labels w ≡ Some m = sym (was w (moment_has moment)) ∙ is in
            subst (λ R. has m.turn R ≡ true) (sym q.1) (moment_has (r.reason w m other old).2.moment)
        | inr old ↦ r.turn_first w m other (before w m (moment_has old) is) T old
      ]

  -- the earliest of equal offers stays
  earliest_more : (w : ℕ) (m : Label C) → (w ≡ root → ⊥) → after.labels w ≡ Some m → (z : ℕ) (S : List ℕ) (e : ℕ) (l : Label C) → Considered j (y ∷ s.order) z S e → j.end e ≡ w → after.labels z ≡ Some l → m.cost ≡ k.plus l.cost (j.adds e) → (has m.turn S ≡ true) ⊎ ((z ≡ m.turn) × (m.link ≤ e))
  earliest_more w m other is z S e l h ends l_is costs =
      elim (came w) [
        | inl a ↦
            let old : s.labels w ≡ Some m = sym a.same ∙ is in
            elim (considered_cases z S e h) [
              | inl q ↦ inl (subst (λ R. has m.turn R ≡ true) (sym q.1) (moment_has (r.reason w m other old).2.moment))
              | inr g ↦ r.earliest w m other old z S e l g ends (before z l (moment_has g.moment) l_is) costs
            ]
        | inr a ↦
            let same : given k j y c a.over ≡ m = some_same a.label is in
            let m_costs : k.plus c (j.adds a.over) ≡ m.cost = ap (λ x. x.cost) same in
            elim (considered_cases z S e h) [
              | inl q ↦
                  grind (arith, after_newest, a.low)
              | inr g ↦
                  let o = r.offers z S e g l (before z l (moment_has g.moment) l_is) in
                  let less = a.lower o.0 (subst (λ x. s.labels x ≡ Some o.0) ends o.1) in
                  absurd (lt_self laws (subst (λ x. Lt k (k.plus c (j.adds a.over)) x) (sym (m_costs ∙ costs)) (lt_le_trans laws less o.2)))
            ]
      ]

  -- what was settled before a moment is not the newest
  not_newest : (z : ℕ) → has z s.order ≡ true → (z ≡ y) → ⊥
  not_newest z h q = both_ways (has y s.order) n.unsettled (subst (λ x. has x s.order ≡ true) q h)

  -- the site settled is the least of those offered so far
  chosen_more : (x : ℕ) (S : List ℕ) (m : Label C) → Moment (y ∷ s.order) x S → after.labels x ≡ Some m → (z : ℕ) (R : List ℕ) (e : ℕ) (l : Label C) → Considered j (y ∷ s.order) z R e → has z S ≡ true → after.labels z ≡ Some l → (j.end e ≡ x → ⊥) → (has (j.end e) S ≡ true → ⊥) → Le k m.cost (k.plus l.cost (j.adds e)) × (m.cost ≡ k.plus l.cost (j.adds e) → x < j.end e)
  chosen_more x S m moment is z R e l h z_in l_is other left =
      elim (moment_cases moment) [
        | inl q ↦
            let z_old : has z s.order ≡ true = subst (λ T. has z T ≡ true) q.1 z_in in
            elim (considered_cases z R e h) [
              | inl p ↦ absurd (not_newest z z_old p.0)
              | inr g ↦
                  let o = r.offers z R e g l (before z l z_old l_is) in
                  let open_end : has (j.end e) s.order ≡ false = false_from_ne_true (has (j.end e) s.order) (λ t. left (subst (λ T. has (j.end e) T ≡ true) (sym q.1) t)) in
                  let best = n.least (j.end e) (r.labelled (j.end e) o.0 o.1) open_end o.0 o.1 in
                  let costs : m.cost ≡ c = after_newest m (subst (λ a. after.labels a ≡ Some m) q.0 is) in (
                    le_trans laws (le_same laws costs) (le_trans laws best.0 o.2),
                    λ equal.
                        let same : c ≡ o.0.cost = le_antisym laws best.0 (le_trans laws o.2 (le_same laws (sym equal ∙ costs))) in
                        let most : y ≤ j.end e = best.1 same in
                        let here : x ≡ y = q.0 in
                        let apart : (j.end e ≡ y) → ⊥ = λ t. other (t ∙ sym here) in
                        omega (arith, apart),
                  )
            ]
        | inr old ↦
            let z_old : has z s.order ≡ true = moment_before old z z_in in
            elim (considered_cases z R e h) [
              | inl p ↦ absurd (not_newest z z_old p.0)
              | inr g ↦ r.chosen x S m old (before x m (moment_has old) is) z R e l g z_in (before z l z_old l_is) other left
            ]
      ]

  -- what holds of a run holds with one site more
  pub one_settled : Running k j root after
  one_settled = record {
    root_label = stays laws j y c s.order s.labels (λ e. sound.adds y s.order e) root (record { cost = k.zero; link = 0; turn = root }) r.root_label newest_zero;
    began =
        elim r.began [
          | inl b ↦
              let at_root : y ≡ root = b.1 y n.label n.labelled in
              let none : s.order ≡ [] = b.0 in
              inr (record { later = []; whole = cc })
          | inr m ↦ inr (moment_more y m)
        ];
    once = once_more;
    labelled = labelled_more;
    least_zero = least_zero_more;
    has_label = λ w h. let l = low w h in (l.0, was w h ∙ l.1);
    frontier = λ x w settled_x left l m l_is m_is. le_trans laws (after_low x l settled_x l_is) (ahead w m left m_is);
    rising = rising_more;
    offers = offers_more;
    reason = reason_more;
    turn_first = turn_first_more;
    earliest = earliest_more;
    chosen = chosen_more;
  }
