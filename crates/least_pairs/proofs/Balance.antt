-- The flow of two from the root to a target that the second run's labels give, and the pair read from it.
use Rattle.std.proofs.Common.{◌≡◌, ℕ, ◌+◌, ◌<◌, ◌≤◌, Bool, true, false, ◌⊎◌, List, [], ◌∷◌, ◌++◌, map, Some, sym, refl, ap, ◌∙◌, subst, inl, inr, append_assoc, arith}
use Rattle.std.proofs.lemmas.Bool.{both_ways, cases_eq, false_from_ne_true}
use Rattle.costs.specs.Costs.{Ops, Laws, Le, total}
use Rattle.costs.specs.Counting.{hit, occurs}
use Rattle.costs.proofs.Counted.{hit_self, total_counted}
use Rattle.costs.proofs.Order.{le_trans, le_same}
use Rattle.costs.proofs.Quoted.{group, quoting}
use Rattle.costs.proofs.Totals.{total_append, total_plus, total_negation, total_map}
use Rattle.least_pairs.specs.Views.{View}
use Rattle.least_pairs.specs.Routes.{Pair, pair_cost}
use Rattle.least_pairs.specs.Runs.{Label, State, has}
use Rattle.least_pairs.specs.Trees.{parent, joined}
use Rattle.least_pairs.specs.Plans.{up, first_job, second_job, link_of, tree_link, cost_of, reduced, marks, pair_read}
use Rattle.least_pairs.specs.Rightness.{Short}
use Rattle.least_pairs.specs.Laws.{Moment, RunLaws}
use Rattle.least_pairs.proofs.Sight.{SoundView}
use Rattle.least_pairs.proofs.Listed.{has_tail, has_cases, occurs_append}
use Rattle.least_pairs.proofs.Moments.{moment_has}
use Rattle.least_pairs.proofs.Older.{moment_one}
use Rattle.least_pairs.proofs.Second.{second_considered}
use Rattle.least_pairs.proofs.Tree.{moment_new, root_reached, up_reached}
use Rattle.least_pairs.proofs.Options.{some_same}
use Rattle.least_pairs.proofs.Pieces.{top_of, top_joined, top_all, top_above}
use Rattle.least_pairs.proofs.Climbs.{tree_of, Climb, climb_links, climb_of, climb_over, climb_under, climb_apart, climb_reached, climb_not_root, climb_balance, climb_once, climb_link, climb_free}
use Rattle.least_pairs.proofs.Parting.{top_between, top_inner, joined_has_top}
use Rattle.least_pairs.proofs.Cycles.{Acyclic, OnTree, tree_starts, tree_acyclic, acyclic_join, short_walk}
use Rattle.least_pairs.proofs.Feeding.{Feeds, Enters, Leads, grown, occurs_map_append, exclusive, either, marks_past, marks_root, tree_link_is}
use Rattle.least_pairs.proofs.Walking.{FlowOfTwo, walks_within, walks_pair, walks_cost}

-- what feeds a site by the sites struck up to it feeds it by more
feeds_past : {C : Type 0} {k : Ops C} {v : View C} {root : ℕ} {first second : State C} (y : ℕ) (ys : List ℕ) (q : ℕ) → (q ≡ y → ⊥) → Feeds k v root first second ys q → Feeds k v root first second (y ∷ ys) q
feeds_past {v = v} {root = root} {first = first} {second = second} y ys q d feed =
    let same : marks second.labels root (y ∷ ys) q ≡ marks second.labels root ys q = marks_past second.labels root y ys q d in
    record {
      before = feed.before;
      moment = record { later = y ∷ feed.moment.later; whole = ap (λ l. y ∷ l) feed.moment.whole };
      z = feed.z;
      is_top = feed.is_top;
      links = feed.links;
      label = feed.label;
      labelled = feed.labelled;
      balance = feed.balance;
      once = feed.once;
      kinds = λ e h. subst (λ ms. Enters v root first second ms e ⊎ Leads v root first feed.before feed.z e) (sym same) (feed.kinds e h);
      marked = λ x h. let p = feed.marked x (sym (ap (has x) same) ∙ h) in (p.0, p.1, has_tail x y ys p.2);
      usable = feed.usable;
      costs = feed.costs;
      leaves = feed.leaves;
      acyclic = feed.acyclic;
    }

module _ {C : Type 0} {k : Ops C} (laws : Laws k) (v : View C) (sound : SoundView k v) {root : ℕ} {first second : State C} (fl : RunLaws k (first_job v) root first) (sl : RunLaws k (second_job k v root first) root second) where
  -- nothing feeds the root
  feeds_root : (ys : List ℕ) → Moment second.order root ys → Feeds k v root first second (root ∷ ys) root
  feeds_root ys m =
      let none : ys ≡ [] = moment_one (sl.once root) sl.root_first m in
      let unmarked : marks second.labels root (root ∷ ys) root ≡ [] = marks_root second.labels root ys in
      record {
        before = ys;
        moment = record { later = []; whole = refl };
        z = root;
        is_top = ap (λ Y. top_of first Y root) none ∙ top_all fl root (root_reached fl);
        links = [];
        label = record { cost = k.zero; link = 0; turn = root };
        labelled = sl.root_label;
        balance = λ x. refl;
        once = λ e. omega arith;
        kinds = λ e h. absurd (omega arith);
        marked = λ x h. absurd (both_ways (has x (marks second.labels root (root ∷ ys) root)) (ap (has x) unmarked) h);
        usable = λ e h. absurd (omega arith);
        costs = refl;
        leaves = λ e h. absurd (omega arith);
        acyclic = λ w e es walk part. absurd (omega (arith, part e (omega (arith, hit_self e))));
      }

  -- what feeds a site's turn grows to what feeds the site
  feeds_more : (t : ℕ) (ys : List ℕ) → Moment second.order t ys → (t ≡ root → ⊥) → ((q : ℕ) → has q ys ≡ true → Feeds k v root first second ys q) → Feeds k v root first second (t ∷ ys) t
  feeds_more t ys now d fed =
      let m = (sl.has_label t (moment_has now)).0 in
      let labelled : second.labels t ≡ Some m = (sl.has_label t (moment_has now)).1 in
      let r = sl.reason t m d labelled in
      let q = m.turn in
      let e = m.link in
      let feed = fed q (sl.turn_first t m d labelled ys now) in
      let S = feed.before in
      let then : Moment second.order q S = record {
        later = now.later ++ t ∷ feed.moment.later;
        whole = now.whole ∙ ap (λ Y. now.later ++ t ∷ Y) feed.moment.whole ∙ sym (append_assoc now.later (t ∷ feed.moment.later) (q ∷ S));
      } in
      let at_once : r.0 ≡ S = moment_one (sl.once q) then r.2.moment in
      let considers : (second_job k v root first).considers q S e ≡ true = subst (λ Y. (second_job k v root first).considers q Y e ≡ true) at_once r.2.considers in
      let c = second_considered k v root first q S e considers in
      let hu : top_of first S (v.start e) ≡ Some feed.z = joined_has_top fl S q (v.start e) feed.z feed.is_top c.start_in in
      let ht : top_of first S t ≡ Some feed.z = subst (λ w. top_of first S w ≡ Some feed.z) r.3 (joined_has_top fl S q (v.end e) feed.z feed.is_top c.end_in) in
      let parted : (v.start e ≡ q) ⊎ (joined (up first) (q ∷ S) (v.start e) t ≡ false) =
      elim c.parts [ inl s ↦ inl s | inr n ↦ inr (subst (λ w. joined (up first) (q ∷ S) (v.start e) w ≡ false) r.3 n) ] in
      let cost : m.cost ≡ k.plus feed.label.cost (reduced k v first e) = r.5 ∙ ap (λ l. k.plus l.cost (reduced k v first e)) (some_same r.4 feed.labelled) in
      grown laws v sound fl ys t m labelled d (moment_new sl t ys now) feed c.usable c.no_tree r.3 hu ht parted cost

  -- every struck site is fed
  feeds : (Z front : List ℕ) → second.order ≡ front ++ Z → (q : ℕ) → has q Z ≡ true → Feeds k v root first second Z q
  feeds [] front whole q h = absurd (both_ways false refl h)
  feeds (y ∷ ys) front whole q h =
      let now : Moment second.order y ys = record { later = front; whole = whole } in
      let before : (x : ℕ) → has x ys ≡ true → Feeds k v root first second ys x = λ x g. feeds ys (front ++ y ∷ []) (whole ∙ sym (append_assoc front (y ∷ []) ys)) x g in
      elim (has_cases q y ys h) [
        | inl s ↦ elim (cases_eq y root) [
          | inl r ↦ subst (λ w. Feeds k v root first second (y ∷ ys) w) (sym s) (subst (λ w. Feeds k v root first second (w ∷ ys) w) (sym r) (feeds_root ys (subst (λ w. Moment second.order w ys) r now)))
          | inr d ↦ subst (λ w. Feeds k v root first second (y ∷ ys) w) (sym s) (feeds_more y ys now d before)
        ]
        | inr i ↦ feeds_past y ys q (λ s. both_ways (has y ys) (moment_new sl y ys now) (subst (λ w. has w ys ≡ true) s i)) (before q i)
      ]

-- the cost of links that balance a flow of two: their reduced costs, and the distance of the target twice
flow_cost : {C : Type 0} {k : Ops C} (laws : Laws k) (v : View C) (root target : ℕ) (first : State C) (F : List ℕ) →
    cost_of k (first.labels root) ≡ k.zero →
    ((x : ℕ) → occurs x (target ∷ target ∷ map v.start F) ≡ occurs x (root ∷ root ∷ map v.end F)) →
    total k v.cost F ≡ k.plus (total k (reduced k v first) F) (k.plus (cost_of k (first.labels target)) (cost_of k (first.labels target)))
flow_cost {C} {k} laws v root target first F at_root balance =
    let d : ℕ → C = λ w. cost_of k (first.labels w) in
    let c = total k v.cost F in
    let a = total k (λ e. d (v.start e)) F in
    let b = total k (λ e. d (v.end e)) F in
    let spread : total k (reduced k v first) F ≡ k.plus (k.plus c a) (k.negation b) =
    total_plus laws (λ e. k.plus (v.cost e) (d (v.start e))) (λ e. k.negation (d (v.end e))) F
    ∙ ap (λ y. k.plus y (total k (λ e. k.negation (d (v.end e))) F)) (total_plus laws v.cost (λ e. d (v.start e)) F)
    ∙ ap (k.plus (k.plus c a)) (total_negation laws (λ e. d (v.end e)) F) in
    let ends : b ≡ k.plus (d target) (k.plus (d target) a) =
    sym (laws.zero_plus b)
    ∙ sym (laws.zero_plus (k.plus k.zero b))
    ∙ ap (λ o. k.plus o (k.plus o b)) (sym at_root)
    ∙ ap (λ y. k.plus (d root) (k.plus (d root) y)) (sym (total_map k d v.end F))
    ∙ sym (total_counted laws d (target ∷ target ∷ map v.start F) (root ∷ root ∷ map v.end F) balance)
    ∙ ap (λ y. k.plus (d target) (k.plus (d target) y)) (total_map k d v.start F) in
    sym (ap (λ y. k.plus y (k.plus (d target) (d target))) (spread ∙ ap (λ y. k.plus (k.plus c a) (k.negation y)) ends)
    ∙ group laws (c ∷ a ∷ d target ∷ []) (search quoting depth 12) tt)

module _ {C : Type 0} {k : Ops C} (laws : Laws k) (v : View C) (sound : SoundView k v) {root : ℕ} {first second : State C} (fl : RunLaws k (first_job v) root first) (sl : RunLaws k (second_job k v root first) root second)
    (target : ℕ) (other : target ≡ root → ⊥) (feed : Feeds k v root first second second.order target) where
  -- the climb from the target to the top of its piece
  last : (X : List ℕ) × Climb first target feed.z X
  last = climb_of fl feed.z target (top_above fl feed.before target feed.z feed.is_top).0

  z_reached : has feed.z first.order ≡ true
  z_reached = up_reached fl feed.z target (top_above fl feed.before target feed.z feed.is_top).0

  -- its links and those that feed the target
  abbrev closed : List ℕ
  closed = climb_links first last.0 ++ feed.links

  in_last : (e : ℕ) → 1 ≤ occurs e (climb_links first last.0) → (e ≡ tree_of first (v.end e)) × (has (v.end e) last.0 ≡ true) × (v.usable e ≡ true)
  in_last e h = climb_link laws v sound fl e target feed.z last.0 last.1 z_reached h

  last_within : (x : ℕ) → has x last.0 ≡ true → top_of first feed.before x ≡ Some feed.z
  last_within x h = top_between fl feed.before target x feed.z feed.is_top (climb_over fl target feed.z x last.0 last.1 h) (climb_under fl target feed.z x last.0 last.1 z_reached h)

  last_old : (e : ℕ) → 1 ≤ occurs e (climb_links first last.0) → 1 ≤ occurs e feed.links → ⊥
  last_old e h g =
      let p = in_last e h in
      let x = v.end e in
      elim (feed.kinds e g) [
        | inl n ↦ both_ways (tree_link v first root e) n.no_tree (tree_link_is laws v sound fl e p.0 (climb_reached fl target feed.z x last.0 last.1 p.1) (climb_not_root fl target feed.z x last.0 last.1 z_reached p.1))
        | inr n ↦ climb_apart fl target feed.z x last.0 last.1 z_reached p.1 (n.lone (last_within x p.1))
      ]

  closed_parts : (e : ℕ) → occurs e closed ≡ occurs e (climb_links first last.0) + occurs e feed.links
  closed_parts e = occurs_append e (climb_links first last.0) feed.links

  closed_either : (e : ℕ) → 1 ≤ occurs e closed → (1 ≤ occurs e (climb_links first last.0)) ⊎ (1 ≤ occurs e feed.links)
  closed_either e h = either (occurs e (climb_links first last.0)) (occurs e feed.links) (omega (arith, closed_parts e))

  closed_balance : (x : ℕ) → hit x target + (hit x target + occurs x (map v.start closed)) ≡ hit x root + (hit x root + occurs x (map v.end closed))
  closed_balance x = grind (arith, climb_balance laws v sound fl, last, z_reached, occurs_map_append)

  -- together they are a flow of two from the root to the target
  closed_flow : FlowOfTwo v first second root target closed
  closed_flow = record {
    balance = λ x. omega (arith, closed_balance x);
    once = λ e. omega (arith, closed_parts e, exclusive (occurs e (climb_links first last.0)) (occurs e feed.links) (climb_once laws v sound fl e target feed.z last.0 last.1 z_reached) (feed.once e) (last_old e));
    marked = λ x h. let p = feed.marked x h in (omega (arith, p.0, closed_parts (link_of (second.labels x))), p.1);
    kinds = λ e h. grind (arith, closed_either, in_last, feed.kinds);
    usable = λ e h. elim (closed_either e h) [ inl i ↦ (in_last e i).2 | inr i ↦ feed.usable e i ];
  }

  -- it costs the label and the distance twice
  closed_cost : total k v.cost closed ≡ k.plus feed.label.cost (k.plus (cost_of k (first.labels target)) (cost_of k (first.labels target)))
  closed_cost =
      flow_cost laws v root target first closed (ap (cost_of k) fl.root_label) (λ x. closed_balance x)
      ∙ ap (λ y. k.plus y (k.plus (cost_of k (first.labels target)) (cost_of k (first.labels target))))
      (total_append laws (reduced k v first) (climb_links first last.0) feed.links
      ∙ ap (λ y. k.plus y (total k (reduced k v first) feed.links)) (climb_free laws v sound fl target feed.z last.0 last.1 z_reached)
      ∙ laws.zero_plus (total k (reduced k v first) feed.links)
      ∙ feed.costs)

  -- whether a site is in the target's piece
  abbrev in_last_piece : ℕ → Bool
  in_last_piece x = joined (up first) feed.before target x

  last_on_tree : (e : ℕ) → 1 ≤ occurs e (climb_links first last.0) → OnTree v root first e
  last_on_tree e h =
      let p = in_last e h in
      record {
        is = p.0;
        reached = climb_reached fl target feed.z (v.end e) last.0 last.1 p.1;
        other = climb_not_root fl target feed.z (v.end e) last.0 last.1 z_reached p.1;
      }

  last_in_piece : (e : ℕ) → 1 ≤ occurs e (climb_links first last.0) → (in_last_piece (v.start e) ≡ true) × (in_last_piece (v.end e) ≡ true)
  last_in_piece e h =
      let p = in_last e h in
      let x = v.end e in
      let there : (y : ℕ) → top_of first feed.before y ≡ Some feed.z → in_last_piece y ≡ true = λ y g. top_joined fl feed.before target y feed.z feed.is_top g in
      let within = last_within x p.1 in (
        subst (λ w. in_last_piece w ≡ true) (sym (tree_starts laws v sound fl e (last_on_tree e h)))
            (there (parent first.labels x) (top_inner fl feed.before x feed.z within (climb_apart fl target feed.z x last.0 last.1 z_reached p.1))),
        there x within,
      )

  old_outside : (e : ℕ) → 1 ≤ occurs e feed.links → in_last_piece (v.start e) ≡ false
  old_outside e i =
      false_from_ne_true (in_last_piece (v.start e)) (λ h. feed.leaves e i (joined_has_top fl feed.before target (v.start e) feed.z feed.is_top h))

  -- it has no cycle
  closed_acyclic : Acyclic v closed
  closed_acyclic = acyclic_join v in_last_piece (climb_links first last.0) feed.links closed closed_either last_in_piece old_outside (tree_acyclic laws v sound fl (climb_links first last.0) last_on_tree) feed.acyclic

module _ {C : Type 0} {k : Ops C} (laws : Laws k) (v : View C) (sound : SoundView k v) {root : ℕ} {first second : State C} (fl : RunLaws k (first_job v) root first) (sl : RunLaws k (second_job k v root first) root second)
    (target : ℕ) (other : target ≡ root → ⊥) (l : Label C) (labelled : second.labels target ≡ Some l) where
  target_fed : Feeds k v root first second second.order target
  target_fed = feeds laws v sound fl sl second.order [] refl target (sl.is_settled target l labelled)

  -- the pair read for a target with a second label is two routes that share no link
  pub reads_a_pair : Pair v root target (pair_read v first second root target).0 (pair_read v first second root target).1
  reads_a_pair = walks_pair laws v sound first second root target other (closed laws v sound fl sl target other target_fed) (closed_flow laws v sound fl sl target other target_fed)

  -- it costs at most the label and the distance twice
  pub reads_at_most : (d : Label C) → first.labels target ≡ Some d → Le k (pair_cost k v (pair_read v first second root target).0 (pair_read v first second root target).1) (k.plus l.cost (k.plus d.cost d.cost))
  reads_at_most d reached =
      le_trans laws (walks_cost laws v sound first second root target other (closed laws v sound fl sl target other target_fed) (closed_flow laws v sound fl sl target other target_fed))
      (le_same laws (closed_cost laws v sound fl sl target other target_fed
      ∙ ap (λ m. k.plus m.cost (k.plus (cost_of k (first.labels target)) (cost_of k (first.labels target)))) (some_same target_fed.labelled labelled)
      ∙ ap (λ o. k.plus l.cost (k.plus (cost_of k o) (cost_of k o))) reached))

  -- neither of its routes visits a site twice, and each has fewer links than there are sites
  pub reads_short : Short v root (pair_read v first second root target).0 × Short v root (pair_read v first second root target).1
  reads_short =
      let F = closed laws v sound fl sl target other target_fed in
      let most = walks_within laws v sound first second root target other F (closed_flow laws v sound fl sl target other target_fed) in
      let none = closed_acyclic laws v sound fl sl target other target_fed in
      let is : root < v.sites = fl.sites root (root_reached fl) in (
        short_walk v sound F none root target (pair_read v first second root target).0 is reads_a_pair.first.leads (λ e h. omega (arith, h, most e)) reads_a_pair.first.some,
        short_walk v sound F none root target (pair_read v first second root target).1 is reads_a_pair.second.leads (λ e h. omega (arith, h, most e)) reads_a_pair.second.some,
      )

-- every struck site other than the root has a pair
pub pairs : {C : Type 0} {k : Ops C} (laws : Laws k) (v : View C) (sound : SoundView k v) {root : ℕ} {first second : State C} → RunLaws k (first_job v) root first → RunLaws k (second_job k v root first) root second → (w : ℕ) (l : Label C) → second.labels w ≡ Some l → (w ≡ root → ⊥) → (one : List ℕ) × (two : List ℕ) × Pair v root w one two
pairs laws v sound {root} {first} {second} fl sl w l h d = ((pair_read v first second root w).0, (pair_read v first second root w).1, reads_a_pair laws v sound fl sl w d l h)
