-- Walks back over a balanced list of links: they end at the root, use links of the list, and none twice.
use Rattle.std.proofs.Common.{◌≡◌, ℕ, zero, suc, ◌+◌, ◌≤◌, true, false, cond, eqb, ◌⊎◌, List, [], ◌∷◌, ◌++◌, map, length, sym, refl, ap, ◌∙◌, subst, inl, inr, arith}
use Rattle.std.proofs.lemmas.Bool.{or_left, eq-eqb, eqb-true, eqb-false, both_ways, cases_eq, cond_both}
use Rattle.costs.specs.Costs.{Ops, Laws, Le, total}
use Rattle.costs.specs.Counting.{hit, occurs}
use Rattle.costs.proofs.Counted.{without, hit_self, occurs_without, total_part}
use Rattle.costs.proofs.Order.{le_trans, le_same}
use Rattle.costs.proofs.Totals.{total_append}
use Rattle.least_pairs.specs.Views.{View}
use Rattle.least_pairs.specs.Routes.{Walk, Pair, pair_cost}
use Rattle.least_pairs.specs.Runs.{State, has}
use Rattle.least_pairs.specs.Plans.{link_of, wiped, walk_back, marks, pair_read}
use Rattle.least_pairs.proofs.Sight.{SoundView}
use Rattle.least_pairs.proofs.Listed.{has_tail, has_cases, has_occurs, hit_other, occurs_append}
use Rattle.least_pairs.proofs.Moments.{length_without, occurs_in_without, few}
use Rattle.least_pairs.proofs.Walks.{all_has}

-- leaving a number out of a list leaves its image out of the list of images
pub occurs_map_without : (f : ℕ → ℕ) (w x : ℕ) (ys : List ℕ) → 1 ≤ occurs x ys → occurs w (map f ys) ≡ hit w (f x) + occurs w (map f (without x ys))
occurs_map_without f w x [] h = absurd (omega arith)
occurs_map_without f w x (y ∷ ys) h =
    (elim (eqb x y) as (λ b. eqb x y ≡ b → hit w (f y) + occurs w (map f ys) ≡ hit w (f x) + occurs w (map f (cond b ys (y ∷ without x ys)))) [
      | true ↦ λ t. ap (λ z. hit w (f z) + occurs w (map f ys)) (sym (eqb-true x y t))
      | false ↦ λ t.
          let missed : hit x y ≡ 0 = ap (λ b. cond b 1 0) t in
          let more : 1 ≤ occurs x ys = omega arith in
          omega (arith, occurs_map_without f w x ys more)
    ]) refl

-- what is among the images is the image of one in the list
pub occurs_map_from : (f : ℕ → ℕ) (w : ℕ) (ys : List ℕ) → 1 ≤ occurs w (map f ys) → (e : ℕ) × (1 ≤ occurs e ys) × (f e ≡ w)
occurs_map_from f w [] h = absurd (omega arith)
occurs_map_from f w (y ∷ ys) h =
    elim (cases_eq w (f y)) [
      | inl s ↦ (y, omega (arith, hit_self y), sym s)
      | inr d ↦
          let p = occurs_map_from f w ys (omega (arith, hit_other w (f y) d)) in
          (p.0, omega (arith, p.1), p.2)
    ]

-- what is left of a list after a site is wiped: all but that site
pub wiped_has : (x w : ℕ) (ms : List ℕ) → has x (wiped w ms) ≡ true → (x ≡ w → ⊥) × (has x ms ≡ true)
wiped_has x w [] h = absurd (both_ways false refl h)
wiped_has x w (y ∷ ys) h =
    (elim (eqb w y) as (λ b. eqb w y ≡ b → has x (cond b (wiped w ys) (y ∷ wiped w ys)) ≡ true → (x ≡ w → ⊥) × (has x (y ∷ ys) ≡ true)) [
      | true ↦ λ t g. let p = wiped_has x w ys g in (p.0, has_tail x y ys p.1)
      | false ↦ λ t g. elim (has_cases x y (wiped w ys) g) [
        | inl s ↦ (λ r. eqb-false w y t (sym r ∙ s), or_left (eqb x y) (has x ys) (eq-eqb x y s))
        | inr i ↦ let p = wiped_has x w ys i in (p.0, has_tail x y ys p.1)
      ]
    ]) refl h

pub has_wiped : (x w : ℕ) (ms : List ℕ) → (x ≡ w → ⊥) → has x ms ≡ true → has x (wiped w ms) ≡ true
has_wiped x w [] d h = h
has_wiped x w (y ∷ ys) d h =
    (elim (eqb w y) as (λ b. eqb w y ≡ b → has x (cond b (wiped w ys) (y ∷ wiped w ys)) ≡ true) [
      | true ↦ λ t. elim (has_cases x y ys h) [
        | inl s ↦ absurd (d (s ∙ sym (eqb-true w y t)))
        | inr i ↦ has_wiped x w ys d i
      ]
      | false ↦ λ t. elim (has_cases x y ys h) [
        | inl s ↦ or_left (eqb x y) (has x (wiped w ys)) (eq-eqb x y s)
        | inr i ↦ has_tail x y (wiped w ys) (has_wiped x w ys d i)
      ]
    ]) refl

-- what is left to walk: a list of links that balances a flow from the root to a site and to others, in which each marked site has its entry link, and each other link is the tree link of its end
pub record Left {C : Type 0} (v : View C) (first second : State C) (root : ℕ) (others roots : List ℕ) (w : ℕ) (ms F : List ℕ) : Type 0 where
  pub balance : (x : ℕ) → hit x w + (occurs x others + occurs x (map v.start F)) ≡ hit x root + (occurs x roots + occurs x (map v.end F))
  pub once : (e : ℕ) → occurs e F ≤ 1
  pub marked : (x : ℕ) → has x ms ≡ true → (1 ≤ occurs (link_of (second.labels x)) F) × (v.end (link_of (second.labels x)) ≡ x)
  pub kinds : (e : ℕ) → 1 ≤ occurs e F → ((e ≡ link_of (second.labels (v.end e))) × (has (v.end e) ms ≡ true)) ⊎ (e ≡ link_of (first.labels (v.end e)))
  pub usable : (e : ℕ) → 1 ≤ occurs e F → v.usable e ≡ true

-- what a walk back leaves: a walk from the root to the target, and a list that balances what is still to walk
pub record Walked {C : Type 0} (v : View C) (first second : State C) (root target : ℕ) (others roots es F : List ℕ) (r : List ℕ × List ℕ) : Type 0 where
  pub left : List ℕ
  pub leads : Walk v root r.0 target
  pub still : Left v first second root others roots root r.1 left
  pub counted : (e : ℕ) → occurs e r.0 + occurs e left ≡ occurs e es + occurs e F

module _ {C : Type 0} (v : View C) (first second : State C) (root : ℕ) (others roots : List ℕ) (away : (x : ℕ) → (x ≡ root → ⊥) → occurs x roots ≡ 0) where
  -- the link that a walk takes back from a site
  abbrev over : ℕ → List ℕ → ℕ
  over w ms = cond (has w ms) (link_of (second.labels w)) (link_of (first.labels w))

  -- at a site other than the root some link that is left ends there
  arrives : (w : ℕ) (ms F : List ℕ) → Left v first second root others roots w ms F → (w ≡ root → ⊥) → 1 ≤ occurs w (map v.end F)
  arrives w ms F l d = omega (arith, hit_other w root d, l.balance w, away w d, hit_self w)

  -- the link taken back is left, and ends at the site
  picked : (w : ℕ) (ms F : List ℕ) → Left v first second root others roots w ms F → (w ≡ root → ⊥) → (1 ≤ occurs (over w ms) F) × (v.end (over w ms) ≡ w)
  picked w ms F l d = grind (arith, occurs_map_from, arrives)

  -- with that link taken and the site wiped, the rest is left to walk from the link's start
  stepped : (w : ℕ) (ms F : List ℕ) → Left v first second root others roots w ms F → (1 ≤ occurs (over w ms) F) → (v.end (over w ms) ≡ w) → Left v first second root others roots (v.start (over w ms)) (wiped w ms) (without (over w ms) F)
  stepped w ms F l one lands =
      let o = over w ms in
      let spent : occurs o (without o F) ≡ 0 = omega (arith, l.once o, occurs_without o o F one, hit_self o) in
      record {
        balance = λ x.
            let ends : hit x (v.end o) ≡ hit x w = ap (hit x) lands in
            omega (arith, l.balance x, occurs_map_without v.start x o F one, occurs_map_without v.end x o F one);
        once = λ e. omega (arith, l.once e, occurs_without e o F one);
        marked = λ x h.
            grind (arith, wiped_has, hit_other, occurs_without, l.marked);
        kinds = λ e h.
            grind (arith, occurs_in_without, has_wiped, l.kinds);
        usable = λ e h. l.usable e (occurs_in_without e o F one h);
      }

  -- a walk back with a turn for each link left ends at the root
  pub walked : (target : ℕ) (n w : ℕ) (ms es F : List ℕ) → length F ≤ n → Left v first second root others roots w ms F → Walk v w es target → Walked v first second root target others roots es F (walk_back v first second root n w ms es)
  walked target zero w ms es (x ∷ xs) h l leads = absurd (omega arith)
  walked target zero w ms es [] h l leads =
      elim (cases_eq w root) [
        | inl s ↦ record { left = []; leads = subst (λ z. Walk v z es target) s leads; still = subst (λ z. Left v first second root others roots z ms []) s l; counted = λ e. refl }
        | inr d ↦ absurd (omega (arith, arrives w ms [] l d))
      ]
  walked target (suc n) w ms es F h l leads =
      cond_both (eqb w root) (es, ms) (walk_back v first second root n (v.start (over w ms)) (wiped w ms) (over w ms ∷ es)) (λ r. Walked v first second root target others roots es F r)
      (λ t. record { left = F; leads = subst (λ z. Walk v z es target) (eqb-true w root t) leads; still = subst (λ z. Left v first second root others roots z ms F) (eqb-true w root t) l; counted = λ e. refl })
      (λ f.
      let p = picked w ms F l (eqb-false w root f) in
      let o = over w ms in
      let onward : Walk v (v.start o) (o ∷ es) target = (l.usable o p.0, refl, subst (λ z. Walk v z es target) (sym p.1) leads) in
      let shorter : length (without o F) ≤ n = omega (arith, length_without o F p.0) in
      let r = walked target n (v.start o) (wiped w ms) (o ∷ es) (without o F) shorter (stepped w ms F l p.0 p.1) onward in
      record { left = r.left; leads = r.leads; still = r.still; counted = λ e. omega (arith, r.counted e, occurs_without e o F p.0) })

-- a walk that leads to another site has a link
walk_some : {C : Type 0} (v : View C) (root target : ℕ) (es : List ℕ) → (target ≡ root → ⊥) → Walk v root es target → 1 ≤ length es
walk_some v root target [] d leads = absurd (d (sym leads))
walk_some v root target (e ∷ es) d leads = omega arith

-- a list that balances a flow of two from the root to a target, with the target's marks
abbrev pub FlowOfTwo : {C : Type 0} → View C → State C → State C → ℕ → ℕ → List ℕ → Type 0
FlowOfTwo v first second root target F = Left v first second root (target ∷ []) (root ∷ []) target (marks second.labels root second.order target) F

module _ {C : Type 0} {k : Ops C} (laws : Laws k) (v : View C) (sound : SoundView k v) (first second : State C) (root target : ℕ) (apart : target ≡ root → ⊥) (F : List ℕ) (flow : FlowOfTwo v first second root target F) where
  -- a site that is not the root is not among the roots
  not_root : (x : ℕ) → (x ≡ root → ⊥) → occurs x (root ∷ []) ≡ 0
  not_root x d = omega (arith, hit_other x root d)

  -- the first walk back
  one : Walked v first second root target (target ∷ []) (root ∷ []) [] F (walk_back v first second root v.links target (marks second.labels root second.order target) [])
  one =
      walked v first second root (target ∷ []) (root ∷ []) not_root target v.links target (marks second.labels root second.order target) [] F
      (few v.links F flow.once (λ e h. sound.link e (flow.usable e h))) flow refl

  -- what the first walk leaves is a flow of one to the target
  turned : Left v first second root [] [] target (walk_back v first second root v.links target (marks second.labels root second.order target) []).1 one.left
  turned = record {
    balance = λ x. omega (arith, one.still.balance x);
    once = one.still.once;
    marked = one.still.marked;
    kinds = one.still.kinds;
    usable = one.still.usable;
  }

  -- the second walk back
  two : Walked v first second root target [] [] [] one.left (walk_back v first second root v.links target (walk_back v first second root v.links target (marks second.labels root second.order target) []).1 [])
  two =
      walked v first second root [] [] (λ x d. refl) target v.links target (walk_back v first second root v.links target (marks second.labels root second.order target) []).1 [] one.left
      (few v.links one.left turned.once (λ e h. sound.link e (turned.usable e h))) turned refl

  -- the two walks together hold each link at most as often as the flow
  pub walks_within : (e : ℕ) → occurs e (pair_read v first second root target).0 + occurs e (pair_read v first second root target).1 ≤ occurs e F
  unfolding pair_read
  walks_within e = omega (arith, one.counted e, two.counted e)

  -- the pair read is two routes that share no link
  pub walks_pair : Pair v root target (pair_read v first second root target).0 (pair_read v first second root target).1
  unfolding pair_read
  walks_pair = record {
    first = record { some = walk_some v root target (pair_read v first second root target).0 apart one.leads; leads = one.leads; once = λ e. omega (arith, walks_within e, flow.once e) };
    second = record { some = walk_some v root target (pair_read v first second root target).1 apart two.leads; leads = two.leads; once = λ e. omega (arith, walks_within e, flow.once e) };
    apart = λ e. omega (arith, walks_within e, flow.once e);
  }

  -- it costs at most what the flow costs
  pub walks_cost : Le k (pair_cost k v (pair_read v first second root target).0 (pair_read v first second root target).1) (total k v.cost F)
  walks_cost =
      let a = (pair_read v first second root target).0 in
      let b = (pair_read v first second root target).1 in
      le_trans laws (le_same laws (sym (total_append laws v.cost a b)))
      (total_part laws v.cost (a ++ b) F (λ e. omega (arith, walks_within e, occurs_append e a b)) (all_has F (λ e h. sound.least e (flow.usable e (has_occurs e F h)))))
