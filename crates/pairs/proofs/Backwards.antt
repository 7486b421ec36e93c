-- Walks back: what one step takes, and that they go by nothing but which sites are marked.
use Rattle.std.proofs.Common.{◌≡◌, ℕ, zero, suc, ◌+◌, ◌<◌, Bool, true, false, cond, eqb, List, [], ◌∷◌, ◌++◌, length, get_or, set, Some, None, Option, sym, refl, ap, ◌∙◌, subst, inl, inr, append_assoc, arith, length-append}
use Rattle.std.proofs.lemmas.Bool.{eq-eqb, ne_eqb, both_ways, cases_Bool, cases_eq, cond-true, cond-false, cond_both}
use Rattle.costs.specs.Costs.{Ops, Laws}
use Rattle.marks.specs.Sets.{less}
use Rattle.least_pairs.specs.Views.{View}
use Rattle.least_pairs.specs.Routes.{Walk}
use Rattle.least_pairs.specs.Runs.{Label, State, has}
use Rattle.least_pairs.specs.Trees.{turn_of, parent}
use Rattle.least_pairs.specs.Plans.{first_job, link_of, wiped, walk_back, labelled}
use Rattle.least_pairs.specs.Laws.{RunLaws}
use Rattle.least_pairs.proofs.Sight.{SoundView}
use Rattle.least_pairs.proofs.Tree.{root_reached}
use Rattle.least_pairs.proofs.Distances.{link_reaches}
use Rattle.least_pairs.proofs.Walks.{walk_parts, walk_reaches}
use Rattle.least_pairs.proofs.Walking.{wiped_has, has_wiped}
use Rattle.pairs.specs.Tables.{Tells, Marked}
use Rattle.pairs.proofs.Writing.{Written, written_more}

-- who has a label has one
pub labelled_some : {C : Type 0} (o : Option (Label C)) → labelled o ≡ true → (l : Label C) × (o ≡ Some l)
labelled_some None h = absurd (both_ways false refl h)
labelled_some (Some l) h = (l, refl)

-- the link of a site with a label, as a table tells it
pub told_link : {C : Type 0} (n : ℕ) (table : List ℕ) (labels : ℕ → Option (Label C)) → Tells n table (λ l. l.link) labels → (w : ℕ) → w < n → labelled (labels w) ≡ true → get_or table w 65535 ≡ link_of (labels w)
told_link n table labels tells w lt h = let l = labelled_some (labels w) h in tells w lt l.0 l.1 ∙ sym (ap link_of l.1)

-- the turn of a site with a label, as a table tells it
pub told_turn : {C : Type 0} (n : ℕ) (table : List ℕ) (labels : ℕ → Option (Label C)) → Tells n table (λ l. l.turn) labels → (w : ℕ) → w < n → labelled (labels w) ≡ true → get_or table w 65535 ≡ parent labels w
told_turn n table labels tells w lt h =
    let l = labelled_some (labels w) h in
    tells w lt l.0 l.1 ∙ sym (ap (λ o. turn_of o w) l.1)

-- what is wiped from a list is wiped from the set of its sites
pub wiped_less : (w : ℕ) (ms : List ℕ) (x : ℕ) → has x (wiped w ms) ≡ less w (λ y. has y ms) x
wiped_less w ms x =
    elim (cases_eq x w) [
      | inl e ↦
          elim (cases_Bool (has x (wiped w ms))) [
            | inl t ↦ absurd ((wiped_has x w ms t).0 e)
            | inr f ↦ f ∙ sym (cond-true (eqb x w) false (has x ms) (eq-eqb x w e))
          ]
      | inr n ↦
          elim (cases_Bool (has x ms)) [
            | inl t ↦ has_wiped x w ms n t ∙ sym (cond-false (eqb x w) false (has x ms) (ne_eqb x w n) ∙ t)
            | inr f ↦
                elim (cases_Bool (has x (wiped w ms))) [
                  | inl t ↦ absurd (both_ways (has x ms) f (wiped_has x w ms t).1)
                  | inr g ↦ g ∙ sym (cond-false (eqb x w) false (has x ms) (ne_eqb x w n) ∙ f)
                ]
          ]
    ]

module _ {C : Type 0} (v : View C) (first second : State C) (root : ℕ) where
  -- the link that a walk takes back from a site
  abbrev pub over : ℕ → List ℕ → ℕ
  over w ms = cond (has w ms) (link_of (second.labels w)) (link_of (first.labels w))

  -- a walk back adds links in front
  pub walk_grows : (n w : ℕ) (ms es : List ℕ) → (front : List ℕ) × ((walk_back v first second root n w ms es).0 ≡ front ++ es)
  walk_grows zero w ms es = ([], refl)
  walk_grows (suc n) w ms es =
      cond_both (eqb w root) (es, ms) (walk_back v first second root n (v.start (over w ms)) (wiped w ms) (over w ms ∷ es)) (λ r. (front : List ℕ) × (r.0 ≡ front ++ es))
      (λ t. ([], refl))
      (λ f.
      let p = walk_grows n (v.start (over w ms)) (wiped w ms) (over w ms ∷ es) in
      (p.0 ++ over w ms ∷ [], p.1 ∙ sym (append_assoc p.0 (over w ms ∷ []) es)))

  -- it marks no site
  pub walk_marks : (n w : ℕ) (ms es : List ℕ) (x : ℕ) → has x (walk_back v first second root n w ms es).1 ≡ true → has x ms ≡ true
  walk_marks zero w ms es x h = h
  walk_marks (suc n) w ms es x h =
      cond_both (eqb w root) (es, ms) (walk_back v first second root n (v.start (over w ms)) (wiped w ms) (over w ms ∷ es)) (λ r. has x r.1 ≡ true → has x ms ≡ true)
      (λ t g. g)
      (λ f g. (wiped_has x w ms (walk_marks n (v.start (over w ms)) (wiped w ms) (over w ms ∷ es) x g)).1) h

  -- it ends at the root
  pub walk_home : (n : ℕ) (ms es : List ℕ) → walk_back v first second root n root ms es ≡ (es, ms)
  walk_home zero ms es = refl
  walk_home (suc n) ms es = cond-true (eqb root root) (es, ms) (walk_back v first second root n (v.start (over root ms)) (wiped root ms) (over root ms ∷ es)) (eq-eqb root root refl)

  -- the same links, and the same marks left
  abbrev Alike : List ℕ × List ℕ → List ℕ × List ℕ → Type 0
  Alike r t = (r.0 ≡ t.0) × ((x : ℕ) → has x r.1 ≡ has x t.1)

  -- it goes by nothing but which sites are marked
  pub walk_same : (n w : ℕ) (ms ns es : List ℕ) → ((x : ℕ) → has x ms ≡ has x ns) → Alike (walk_back v first second root n w ms es) (walk_back v first second root n w ns es)
  walk_same zero w ms ns es h = (refl, h)
  walk_same (suc n) w ms ns es h =
      let o = over w ms in
      let same : o ≡ over w ns = ap (λ b. cond b (link_of (second.labels w)) (link_of (first.labels w))) (h w) in
      let less_same : (x : ℕ) → has x (wiped w ms) ≡ has x (wiped w ns) = λ x. wiped_less w ms x ∙ ap (λ b. cond (eqb x w) false b) (h x) ∙ sym (wiped_less w ns x) in
      let here = walk_back v first second root n (v.start o) (wiped w ms) (o ∷ es) in
      subst (λ p. Alike (cond (eqb w root) (es, ms) here) (cond (eqb w root) (es, ns) (walk_back v first second root n (v.start p) (wiped w ns) (p ∷ es)))) same
      (elim (eqb w root) as (λ b. Alike (cond b (es, ms) here) (cond b (es, ns) (walk_back v first second root n (v.start o) (wiped w ns) (o ∷ es)))) [
        | true ↦ (refl, h)
        | false ↦ walk_same n (v.start o) (wiped w ms) (wiped w ns) (o ∷ es) less_same
      ])

-- two walks over the same links to the same site begin at one site
starts_same : {C : Type 0} (v : View C) (es : List ℕ) (a b t : ℕ) → Walk v a es t → Walk v b es t → a ≡ b
starts_same v [] a b t p q = p ∙ sym q
starts_same v (e ∷ es) a b t p q = sym p.1 ∙ q.1

-- one step of a walk back that leads from the root
pub record Step {C : Type 0} (v : View C) (first second : State C) (root target n w : ℕ) (ms es : List ℕ) : Type 0 where
  pub turns : ℕ
  pub whole : walk_back v first second root n w ms es ≡ walk_back v first second root turns (v.start (over v first second root w ms)) (wiped w ms) (over v first second root w ms ∷ es)
  pub usable : v.usable (over v first second root w ms) ≡ true
  pub reached : has w first.order ≡ true
  pub onward : Walk v (v.start (over v first second root w ms)) (over v first second root w ms ∷ es) target
  pub room : length es < length (walk_back v first second root n w ms es).0

module _ {C : Type 0} {k : Ops C} {v : View C} {root : ℕ} {first : State C} (laws : Laws k) (sound : SoundView k v) (fl : RunLaws k (first_job v) root first) (second : State C) where
  pub step : (target n w : ℕ) (ms es : List ℕ) → (w ≡ root → ⊥) → Walk v w es target → Walk v root (walk_back v first second root n w ms es).0 target → Step v first second root target n w ms es
  step target zero w ms es d here leads = absurd (d (starts_same v es w root target here leads))
  step target (suc n) w ms es d here leads =
      let o = over v first second root w ms in
      let next = walk_back v first second root n (v.start o) (wiped w ms) (o ∷ es) in
      let whole : walk_back v first second root (suc n) w ms es ≡ next = cond-false (eqb w root) (es, ms) next (ne_eqb w root d) in
      let g = walk_grows v first second root n (v.start o) (wiped w ms) (o ∷ es) in
      let parts : (walk_back v first second root (suc n) w ms es).0 ≡ g.0 ++ o ∷ es = ap (λ r. r.0) whole ∙ g.1 in
      let p = walk_parts v g.0 (o ∷ es) root target (subst (λ xs. Walk v root xs target) parts leads) in
      let ends : v.end o ≡ w = starts_same v es (v.end o) w target p.2.2 here in
      let from : has (v.start o) first.order ≡ true = subst (λ z. has z first.order ≡ true) (sym p.2.1) (walk_reaches laws sound fl g.0 root p.0 p.1 (root_reached fl)) in
      record {
        turns = n;
        whole = whole;
        usable = p.2.0;
        reached = subst (λ z. has z first.order ≡ true) ends (link_reaches laws sound fl o p.2.0 from);
        onward = (p.2.0, refl, p.2.2);
        room = omega (arith, ap length parts, length-append g.0 (o ∷ es));
      }

-- where a walk back that is being written stands
pub record Stands {C : Type 0} (v : View C) (first second : State C) (root target : ℕ) (all : List ℕ × List ℕ) (site : ℕ) (marked : ℕ → Bool) (before route : List ℕ) (count : ℕ) : Type 0 where
  pub turns : ℕ
  pub left : List ℕ
  pub passed : List ℕ
  pub whole : all ≡ walk_back v first second root turns site left passed
  pub marks : Marked marked left
  pub entries : (x : ℕ) → has x left ≡ true → labelled (second.labels x) ≡ true
  pub leads : Walk v site passed target
  pub written : Written before route count passed

module _ {C : Type 0} (v : View C) (first second : State C) (root target : ℕ) where
  -- the link taken, as the tables tell it
  pub taken : (sites : ℕ) (tree entry : List ℕ) → Tells sites tree (λ l. l.link) first.labels → Tells sites entry (λ l. l.link) second.labels → (w : ℕ) (ms : List ℕ) (marked : ℕ → Bool) → w < sites → labelled (first.labels w) ≡ true → Marked marked ms → ((x : ℕ) → has x ms ≡ true → labelled (second.labels x) ≡ true) → cond (marked w) (get_or entry w 65535) (get_or tree w 65535) ≡ over v first second root w ms
  taken sites tree entry tells_tree tells_entry w ms marked lt reached is entries =
      let a = get_or entry w 65535 in
      let b = get_or tree w 65535 in
      let one = link_of (second.labels w) in
      let two = link_of (first.labels w) in
      ap (λ t. cond t a b) (is w)
      ∙ elim (cases_Bool (has w ms)) [
        | inl t ↦ cond-true (has w ms) a b t ∙ told_link sites entry second.labels tells_entry w lt (entries w t) ∙ sym (cond-true (has w ms) one two t)
        | inr f ↦ cond-false (has w ms) a b f ∙ told_link sites tree first.labels tells_tree w lt reached ∙ sym (cond-false (has w ms) one two f)
      ]

  -- one step further
  pub stands_more : (all : List ℕ × List ℕ) (site : ℕ) (marked after : ℕ → Bool) (before route : List ℕ) (count link : ℕ) → (s : Stands v first second root target all site marked before route count) → Step v first second root target s.turns site s.left s.passed → link ≡ over v first second root site s.left → ((x : ℕ) → after x ≡ less site marked x) → count < length route → Stands v first second root target all (v.start link) after before (set route count link) (count + 1)
  stands_more all site marked after before route count link s t is wipes lt =
      let o = over v first second root site s.left in
      subst (λ e. Stands v first second root target all (v.start e) after before (set route count e) (count + 1)) (sym is)
      (record {
        turns = t.turns;
        left = wiped site s.left;
        passed = o ∷ s.passed;
        whole = s.whole ∙ t.whole;
        marks = λ x. wipes x ∙ ap (λ b. cond (eqb x site) false b) (s.marks x) ∙ sym (wiped_less site s.left x);
        entries = λ x h. s.entries x (wiped_has x site s.left h).1;
        leads = t.onward;
        written = written_more before route count s.passed o lt s.written;
      })
