-- Lists of links that balance a flow of one to a struck site and one to the top of its piece, built along the turns of the second run.
use Rattle.std.proofs.Common.{◌≡◌, ℕ, ◌+◌, ◌≤◌, Bool, true, false, cond, eqb, ◌⊎◌, List, [], ◌∷◌, ◌++◌, map, Some, Option, sym, refl, ap, ◌∙◌, subst, inl, inr, arith}
use Rattle.std.proofs.lemmas.Bool.{eqb-true, eq-eqb, ne_eqb, both_ways, cases_eq, cases_lt, cond-false, false_from_ne_true}
use Rattle.costs.specs.Costs.{Ops, Laws, total}
use Rattle.costs.specs.Counting.{hit, occurs}
use Rattle.costs.proofs.Counted.{hit_self}
use Rattle.costs.proofs.Totals.{total_append}
use Rattle.least_pairs.specs.Views.{View}
use Rattle.least_pairs.specs.Runs.{Label, State, has}
use Rattle.least_pairs.specs.Trees.{parent, joined}
use Rattle.least_pairs.specs.Plans.{up, first_job, link_of, tree_link, reduced, marks}
use Rattle.least_pairs.specs.Laws.{Moment, RunLaws}
use Rattle.least_pairs.proofs.Sight.{SoundView}
use Rattle.least_pairs.proofs.Distances.{tree_link_told}
use Rattle.least_pairs.proofs.Listed.{has_head, has_tail, has_cases, occurs_append, hit_most, hit_other}
use Rattle.least_pairs.proofs.Tree.{up_settled, up_antisym, up_trans, up_parent_lacks}
use Rattle.least_pairs.proofs.Pieces.{top_of, top_joined, top_some, top_above, top_reached}
use Rattle.least_pairs.proofs.Climbs.{tree_of, Climb, climb_links, climb_over, climb_under, climb_apart, climb_reached, climb_not_root, climb_balance, climb_once, climb_link, climb_free}
use Rattle.least_pairs.proofs.Cycles.{Acyclic, OnTree, tree_starts, tree_acyclic, acyclic_join, all_out}
use Rattle.least_pairs.proofs.Parting.{Ways, ways, later_top, low_under, start_out, joined_has_top, top_inner}

-- two numbers at most one of which is one are at most one together
pub exclusive : (a b : ℕ) → a ≤ 1 → b ≤ 1 → (1 ≤ a → 1 ≤ b → ⊥) → a + b ≤ 1
exclusive a b ha hb h = grind (arith)

-- one of two numbers with a sum of one or more is one or more
pub either : (a b : ℕ) → 1 ≤ a + b → (1 ≤ a) ⊎ (1 ≤ b)
either a b h = elim (cases_lt 0 a) [ inl p ↦ inl (omega arith) | inr p ↦ inr (omega arith) ]

-- a number is among the images of two lists in a row as often as among both
pub occurs_map_append : (f : ℕ → ℕ) (y : ℕ) (xs ys : List ℕ) → occurs y (map f (xs ++ ys)) ≡ occurs y (map f xs) + occurs y (map f ys)
occurs_map_append f y [] ys = omega arith
occurs_map_append f y (x ∷ xs) ys = omega (arith, occurs_map_append f y xs ys)

-- the mark of a site comes before those of its turn
marks_more : {C : Type 0} (labels : ℕ → Option (Label C)) (root : ℕ) (ys : List ℕ) (t : ℕ) (m : Label C) → labels t ≡ Some m → (t ≡ root → ⊥) → marks labels root (t ∷ ys) t ≡ t ∷ marks labels root ys m.turn
marks_more labels root ys t m h d = grind arith

-- the marks of another site are searched for further back
pub marks_past : {C : Type 0} (labels : ℕ → Option (Label C)) (root : ℕ) (y : ℕ) (ys : List ℕ) (w : ℕ) → (w ≡ y → ⊥) → marks labels root (y ∷ ys) w ≡ marks labels root ys w
marks_past labels root y ys w d = cond-false (eqb w y) (cond (eqb y root) [] (y ∷ marks labels root ys (parent labels y))) (marks labels root ys w) (ne_eqb w y d)

-- the root has no marks
pub marks_root : {C : Type 0} (labels : ℕ → Option (Label C)) (root : ℕ) (ys : List ℕ) → marks labels root (root ∷ ys) root ≡ []
marks_root labels root ys = grind arith

-- the entry link of a marked site, no tree link
pub record Enters {C : Type 0} (v : View C) (root : ℕ) (first second : State C) (ms : List ℕ) (e : ℕ) : Type 0 where
  pub is : e ≡ link_of (second.labels (v.end e))
  pub marked : has (v.end e) ms ≡ true
  pub no_tree : tree_link v first root e ≡ false

-- the tree link of a site that is not in a piece, or is its top
pub record Leads {C : Type 0} (v : View C) (root : ℕ) (first : State C) (S : List ℕ) (z e : ℕ) : Type 0 where
  pub is : e ≡ tree_of first (v.end e)
  pub reached : has (v.end e) first.order ≡ true
  pub other : v.end e ≡ root → ⊥
  pub lone : top_of first S (v.end e) ≡ Some z → v.end e ≡ z

-- links that balance a flow of one to a struck site and one to the top of its piece; their reduced costs are the site's label
pub record Feeds {C : Type 0} (k : Ops C) (v : View C) (root : ℕ) (first second : State C) (Z : List ℕ) (q : ℕ) : Type 0 where
  pub before : List ℕ
  pub moment : Moment Z q before
  pub z : ℕ
  pub is_top : top_of first before q ≡ Some z
  pub links : List ℕ
  pub label : Label C
  pub labelled : second.labels q ≡ Some label
  pub balance : (x : ℕ) → hit x q + (hit x z + occurs x (map v.start links)) ≡ hit x root + (hit x root + occurs x (map v.end links))
  pub once : (e : ℕ) → occurs e links ≤ 1
  pub kinds : (e : ℕ) → 1 ≤ occurs e links → Enters v root first second (marks second.labels root Z q) e ⊎ Leads v root first before z e
  pub marked : (x : ℕ) → has x (marks second.labels root Z q) ≡ true → (1 ≤ occurs (link_of (second.labels x)) links) × (v.end (link_of (second.labels x)) ≡ x) × (has x Z ≡ true)
  pub usable : (e : ℕ) → 1 ≤ occurs e links → v.usable e ≡ true
  pub costs : total k (reduced k v first) links ≡ label.cost
  -- no link starts in the site's piece, and no walk over the links comes back
  pub leaves : (e : ℕ) → 1 ≤ occurs e links → top_of first before (v.start e) ≡ Some z → ⊥
  pub acyclic : Acyclic v links

-- a link that is the tree link of its end, a reached site other than the root, is told to be a tree link
pub tree_link_is : {C : Type 0} {k : Ops C} (laws : Laws k) (v : View C) (sound : SoundView k v) {root : ℕ} {first : State C} → RunLaws k (first_job v) root first → (e : ℕ) → e ≡ tree_of first (v.end e) → has (v.end e) first.order ≡ true → (v.end e ≡ root → ⊥) → tree_link v first root e ≡ true
tree_link_is laws v sound {root} {first} fl e is reached other = subst (λ x. tree_link v first root x ≡ true) (sym is) (tree_link_told laws sound fl (v.end e) reached other)

module _ {C : Type 0} {k : Ops C} (laws : Laws k) (v : View C) (sound : SoundView k v) {root : ℕ} {first second : State C} (fl : RunLaws k (first_job v) root first)
    (ys : List ℕ) (t : ℕ) (m : Label C) (labelled : second.labels t ≡ Some m) (other : t ≡ root → ⊥) (new : has t ys ≡ false)
    (feed : Feeds k v root first second ys m.turn)
    (usable : v.usable m.link ≡ true) (no_tree : tree_link v first root m.link ≡ false) (lands : v.end m.link ≡ t)
    (hu : top_of first feed.before (v.start m.link) ≡ Some feed.z) (ht : top_of first feed.before t ≡ Some feed.z)
    (parted : (v.start m.link ≡ m.turn) ⊎ (joined (up first) (m.turn ∷ feed.before) (v.start m.link) t ≡ false))
    (cost : m.cost ≡ k.plus feed.label.cost (reduced k v first m.link)) where
  -- the top of the new piece
  low_of : (low : ℕ) × (top_of first ys t ≡ Some low)
  low_of = top_some fl ys t (top_reached fl feed.before t feed.z ht) new

  -- the sites struck, taken apart at the turn
  abbrev apart_at : List ℕ
  apart_at = feed.moment.later ++ m.turn ∷ feed.before

  low_there : top_of first apart_at t ≡ Some low_of.0
  low_there = subst (λ Y. top_of first Y t ≡ Some low_of.0) feed.moment.whole low_of.1

  two_ways : Ways first m.turn feed.before feed.z (v.start m.link) apart_at low_of.0
  two_ways = ways fl m.turn feed.before feed.z feed.is_top (v.start m.link) t hu ht parted feed.moment.later low_of.0 low_there

  -- the ends of the climbs are reached
  from_reached : has two_ways.from first.order ≡ true
  from_reached = up_settled fl feed.z two_ways.from two_ways.from_under

  other_reached : has two_ways.other first.order ≡ true
  other_reached = up_settled fl feed.z two_ways.other two_ways.other_under

  -- the links of the two climbs
  abbrev one : List ℕ
  one = climb_links first two_ways.sites

  abbrev two : List ℕ
  two = climb_links first two_ways.other_sites

  -- all links of the flow
  abbrev all : List ℕ
  all = m.link ∷ (one ++ (two ++ feed.links))

  -- what is in the whole is the entry link, in a climb, or was there before
  parts : (e : ℕ) → occurs e all ≡ hit e m.link + (occurs e one + (occurs e two + occurs e feed.links))
  parts e = omega (arith, occurs_append e one (two ++ feed.links), occurs_append e two feed.links)

  in_one : (e : ℕ) → 1 ≤ occurs e one → (e ≡ tree_of first (v.end e)) × (has (v.end e) two_ways.sites ≡ true) × (v.usable e ≡ true)
  in_one e h = climb_link laws v sound fl e low_of.0 two_ways.from two_ways.sites two_ways.climb from_reached h

  in_two : (e : ℕ) → 1 ≤ occurs e two → (e ≡ tree_of first (v.end e)) × (has (v.end e) two_ways.other_sites ≡ true) × (v.usable e ≡ true)
  in_two e h = climb_link laws v sound fl e (v.start m.link) two_ways.other two_ways.other_sites two_ways.other_climb other_reached h

  -- a climb's links are tree links of reached sites other than the root
  leads_one : (e : ℕ) → 1 ≤ occurs e one → Leads v root first ys low_of.0 e
  leads_one e h =
      let p = in_one e h in
      record {
        is = p.0;
        reached = climb_reached fl low_of.0 two_ways.from (v.end e) two_ways.sites two_ways.climb p.1;
        other = climb_not_root fl low_of.0 two_ways.from (v.end e) two_ways.sites two_ways.climb from_reached p.1;
        lone = λ g. up_antisym fl (v.end e) low_of.0 (climb_over fl low_of.0 two_ways.from (v.end e) two_ways.sites two_ways.climb p.1) (top_above fl ys (v.end e) low_of.0 g).0;
      }

  leads_two : (e : ℕ) → 1 ≤ occurs e two → Leads v root first ys low_of.0 e
  leads_two e h =
      let p = in_two e h in
      record {
        is = p.0;
        reached = climb_reached fl (v.start m.link) two_ways.other (v.end e) two_ways.other_sites two_ways.other_climb p.1;
        other = climb_not_root fl (v.start m.link) two_ways.other (v.end e) two_ways.other_sites two_ways.other_climb other_reached p.1;
        lone = λ g. absurd (two_ways.other_out (v.end e) p.1 (subst (λ Y. top_of first Y (v.end e) ≡ Some low_of.0) feed.moment.whole g));
      }

  -- what was there before and is the tree link of a site in the old piece leads to its top
  old_lone : (x : ℕ) → top_of first feed.before x ≡ Some feed.z → (e : ℕ) → 1 ≤ occurs e feed.links → e ≡ tree_of first (v.end e) → has (v.end e) first.order ≡ true → (v.end e ≡ root → ⊥) → v.end e ≡ x → x ≡ feed.z
  old_lone x within e h is reached not_root ends =
      elim (feed.kinds e h) [
        | inl p ↦ absurd (both_ways (tree_link v first root e) p.no_tree (tree_link_is laws v sound fl e is reached not_root))
        | inr p ↦ sym ends ∙ p.lone (subst (λ y. top_of first feed.before y ≡ Some feed.z) (sym ends) within)
      ]

  -- no site of a climb is the top of the old piece
  not_top : (w a x : ℕ) (X : List ℕ) → Climb first w a X → has a first.order ≡ true → has feed.z (up first a) ≡ true → has x X ≡ true → x ≡ feed.z → ⊥
  not_top w a x X c ha under h e =
      let ax = climb_under fl w a x X c ha h in
      climb_apart fl w a x X c ha h (e ∙ up_antisym fl feed.z a under (subst (λ y. has a (up first y) ≡ true) e ax))

  -- the climbs and what was there before share no link
  one_old : (e : ℕ) → 1 ≤ occurs e one → 1 ≤ occurs e feed.links → ⊥
  one_old e h g =
      let p = in_one e h in
      let l = leads_one e h in
      not_top low_of.0 two_ways.from (v.end e) two_ways.sites two_ways.climb from_reached two_ways.from_under p.1
      (old_lone (v.end e) (two_ways.within (v.end e) p.1) e g p.0 l.reached l.other refl)

  two_old : (e : ℕ) → 1 ≤ occurs e two → 1 ≤ occurs e feed.links → ⊥
  two_old e h g =
      let p = in_two e h in
      let l = leads_two e h in
      not_top (v.start m.link) two_ways.other (v.end e) two_ways.other_sites two_ways.other_climb other_reached two_ways.other_under p.1
      (old_lone (v.end e) (two_ways.other_within (v.end e) p.1) e g p.0 l.reached l.other refl)

  one_two : (e : ℕ) → 1 ≤ occurs e one → 1 ≤ occurs e two → ⊥
  one_two e h g = two_ways.apart (v.end e) (in_one e h).1 (in_two e g).1

  -- the entry link is neither in a climb nor was there before
  entry_no_tree : {S : List ℕ} {z : ℕ} → Leads v root first S z m.link → ⊥
  entry_no_tree l = both_ways (tree_link v first root m.link) no_tree (tree_link_is laws v sound fl m.link l.is l.reached l.other)

  entry_old : 1 ≤ occurs m.link feed.links → ⊥
  entry_old h = grind (arith, entry_no_tree)

  entry_new : (e : ℕ) → 1 ≤ hit e m.link → 1 ≤ occurs e one + (occurs e two + occurs e feed.links) → ⊥
  entry_new e h g =
      let same : e ≡ m.link = elim (cases_eq e m.link) [ inl s ↦ s | inr d ↦ absurd (omega (arith, hit_other e m.link d)) ] in
      elim (either (occurs e one) (occurs e two + occurs e feed.links) g) [
        | inl i ↦ entry_no_tree (leads_one m.link (subst (λ y. 1 ≤ occurs y one) same i))
        | inr o ↦ elim (either (occurs e two) (occurs e feed.links) o) [
          | inl i ↦ entry_no_tree (leads_two m.link (subst (λ y. 1 ≤ occurs y two) same i))
          | inr i ↦ entry_old (subst (λ y. 1 ≤ occurs y feed.links) same i)
        ]
      ]

  -- no link stands twice
  all_once : (e : ℕ) → occurs e all ≤ 1
  all_once e =
      let last : occurs e two + occurs e feed.links ≤ 1 =
      exclusive (occurs e two) (occurs e feed.links) (climb_once laws v sound fl e (v.start m.link) two_ways.other two_ways.other_sites two_ways.other_climb other_reached) (feed.once e) (two_old e) in
      let rest : occurs e one + (occurs e two + occurs e feed.links) ≤ 1 =
      exclusive (occurs e one) (occurs e two + occurs e feed.links) (climb_once laws v sound fl e low_of.0 two_ways.from two_ways.sites two_ways.climb from_reached) last
      (λ h g. elim (either (occurs e two) (occurs e feed.links) g) [ inl i ↦ one_two e h i | inr i ↦ one_old e h i ]) in
      let whole : hit e m.link + (occurs e one + (occurs e two + occurs e feed.links)) ≤ 1 =
      exclusive (hit e m.link) (occurs e one + (occurs e two + occurs e feed.links)) (hit_most e m.link) rest (entry_new e) in
      omega (arith, parts e)

  -- what holds of the entry link, of the links of the climbs and of those before holds of all
  in_parts : (P : Type 0) (e : ℕ) → 1 ≤ occurs e all → (e ≡ m.link → P) → (1 ≤ occurs e one → P) → (1 ≤ occurs e two → P) → (1 ≤ occurs e feed.links → P) → P
  in_parts P e h a b c d = grind (arith, either, hit_other, parts)

  -- the marks are those of the turn, and the site
  marks_are : marks second.labels root (t ∷ ys) t ≡ t ∷ marks second.labels root ys m.turn
  marks_are = marks_more second.labels root ys t m labelled other

  entry_is : link_of (second.labels t) ≡ m.link
  entry_is = ap link_of labelled

  enters_entry : Enters v root first second (marks second.labels root (t ∷ ys) t) m.link
  enters_entry = record {
    is = sym (ap (λ w. link_of (second.labels w)) lands ∙ entry_is);
    marked = ap (has (v.end m.link)) marks_are ∙ subst (λ w. has w (t ∷ marks second.labels root ys m.turn) ≡ true) (sym lands) (has_head t (marks second.labels root ys m.turn));
    no_tree = no_tree;
  }

  enters_old : (e : ℕ) → Enters v root first second (marks second.labels root ys m.turn) e → Enters v root first second (marks second.labels root (t ∷ ys) t) e
  enters_old e p = record {
    is = p.is;
    marked = ap (has (v.end e)) marks_are ∙ has_tail (v.end e) t (marks second.labels root ys m.turn) p.marked;
    no_tree = p.no_tree;
  }

  -- a tree link to the top of the old piece leads to the top of the new piece, if it leads into that
  leads_old : (e : ℕ) → Leads v root first feed.before feed.z e → Leads v root first ys low_of.0 e
  leads_old e p = record {
    is = p.is;
    reached = p.reached;
    other = p.other;
    lone = λ g.
        let there : top_of first apart_at (v.end e) ≡ Some low_of.0 = subst (λ Y. top_of first Y (v.end e) ≡ Some low_of.0) feed.moment.whole g in
        let x_is : v.end e ≡ feed.z = p.lone (later_top fl m.turn feed.before feed.z feed.is_top (v.start m.link) t hu ht parted feed.moment.later low_of.0 low_there (v.end e) there) in
        let under : has feed.z (up first low_of.0) ≡ true = low_under fl m.turn feed.before feed.z feed.is_top (v.start m.link) t hu ht parted feed.moment.later low_of.0 low_there in
        up_antisym fl (v.end e) low_of.0 (subst (λ w. has w (up first low_of.0) ≡ true) (sym x_is) under) (top_above fl ys (v.end e) low_of.0 g).0;
  }

  all_balance : (x : ℕ) → hit x t + (hit x low_of.0 + occurs x (map v.start all)) ≡ hit x root + (hit x root + occurs x (map v.end all))
  all_balance x =
      let lands_hit : hit x (v.end m.link) ≡ hit x t = ap (hit x) lands in
      omega (
        arith,
        feed.balance x,
        two_ways.ends x,
        climb_balance laws v sound fl x low_of.0 two_ways.from two_ways.sites two_ways.climb from_reached,
        climb_balance laws v sound fl x (v.start m.link) two_ways.other two_ways.other_sites two_ways.other_climb other_reached,
        occurs_map_append v.start x one (two ++ feed.links),
        occurs_map_append v.start x two feed.links,
        occurs_map_append v.end x one (two ++ feed.links),
        occurs_map_append v.end x two feed.links,
      )

  all_costs : total k (reduced k v first) all ≡ m.cost
  all_costs =
      let r = reduced k v first in
      ap (k.plus (r m.link))
      (total_append laws r one (two ++ feed.links)
      ∙ ap (λ y. k.plus y (total k r (two ++ feed.links))) (climb_free laws v sound fl low_of.0 two_ways.from two_ways.sites two_ways.climb from_reached)
      ∙ laws.zero_plus (total k r (two ++ feed.links))
      ∙ total_append laws r two feed.links
      ∙ ap (λ y. k.plus y (total k r feed.links)) (climb_free laws v sound fl (v.start m.link) two_ways.other two_ways.other_sites two_ways.other_climb other_reached)
      ∙ laws.zero_plus (total k r feed.links)
      ∙ feed.costs)
      ∙ laws.comm (r m.link) feed.label.cost
      ∙ sym cost

  -- no link starts in the new piece
  on_tree : {e : ℕ} → Leads v root first ys low_of.0 e → OnTree v root first e
  on_tree l = record { is = l.is; reached = l.reached; other = l.other }

  apart_too : (x : ℕ) → top_of first ys x ≡ Some low_of.0 → top_of first apart_at x ≡ Some low_of.0
  apart_too x h = subst (λ Y. top_of first Y x ≡ Some low_of.0) feed.moment.whole h

  one_leaves : (e : ℕ) → 1 ≤ occurs e one → top_of first ys (v.start e) ≡ Some low_of.0 → ⊥
  one_leaves e i h =
      let l = leads_one e i in
      let x = v.end e in
      let p = parent first.labels x in
      let starts : v.start e ≡ p = tree_starts laws v sound fl e (on_tree l) in
      let low_p : has low_of.0 (up first p) ≡ true = (top_above fl ys p low_of.0 (subst (λ w. top_of first ys w ≡ Some low_of.0) starts h)).0 in
      let x_low : has x (up first low_of.0) ≡ true = climb_over fl low_of.0 two_ways.from x two_ways.sites two_ways.climb (in_one e i).1 in
      both_ways (has x (up first p)) (up_parent_lacks fl x l.reached l.other) (up_trans fl x low_of.0 p x_low low_p)

  two_leaves : (e : ℕ) → 1 ≤ occurs e two → top_of first ys (v.start e) ≡ Some low_of.0 → ⊥
  two_leaves e i h =
      let starts = tree_starts laws v sound fl e (on_tree (leads_two e i)) in
      two_ways.other_starts (v.end e) (in_two e i).1 (apart_too (parent first.labels (v.end e)) (subst (λ w. top_of first ys w ≡ Some low_of.0) starts h))

  all_leaves : (e : ℕ) → 1 ≤ occurs e all → top_of first ys (v.start e) ≡ Some low_of.0 → ⊥
  all_leaves e h g =
      in_parts ⊥ e h
      (λ s. start_out fl m.turn feed.before feed.z feed.is_top (v.start m.link) t hu ht parted feed.moment.later low_of.0 low_there (apart_too (v.start m.link) (subst (λ y. top_of first ys (v.start y) ≡ Some low_of.0) s g)))
      (λ i. one_leaves e i g)
      (λ i. two_leaves e i g)
      (λ i. feed.leaves e i (later_top fl m.turn feed.before feed.z feed.is_top (v.start m.link) t hu ht parted feed.moment.later low_of.0 low_there (v.start e) (apart_too (v.start e) g)))

  -- the new links
  abbrev new_links : List ℕ
  new_links = m.link ∷ (one ++ two)

  in_new : (P : Type 0) (e : ℕ) → 1 ≤ occurs e new_links → (e ≡ m.link → P) → (1 ≤ occurs e one → P) → (1 ≤ occurs e two → P) → P
  in_new P e h a b c = grind (arith, either, hit_other, occurs_append)

  new_or_old : (e : ℕ) → 1 ≤ occurs e all → (1 ≤ occurs e new_links) ⊎ (1 ≤ occurs e feed.links)
  new_or_old e h = either (occurs e new_links) (occurs e feed.links) (omega (arith, parts e, occurs_append e one two))

  -- whether a site is in the turn's piece
  abbrev in_piece : ℕ → Bool
  in_piece x = joined (up first) feed.before m.turn x

  top_in_piece : (x : ℕ) → top_of first feed.before x ≡ Some feed.z → in_piece x ≡ true
  top_in_piece x h = top_joined fl feed.before m.turn x feed.z feed.is_top h

  -- a tree link within the piece
  tree_in_piece : (e : ℕ) → OnTree v root first e → top_of first feed.before (v.end e) ≡ Some feed.z → (v.end e ≡ feed.z → ⊥) → (in_piece (v.start e) ≡ true) × (in_piece (v.end e) ≡ true)
  tree_in_piece e on h d =
      (subst (λ w. in_piece w ≡ true) (sym (tree_starts laws v sound fl e on)) (top_in_piece (parent first.labels (v.end e)) (top_inner fl feed.before (v.end e) feed.z h d)), top_in_piece (v.end e) h)

  new_in_piece : (e : ℕ) → 1 ≤ occurs e new_links → (in_piece (v.start e) ≡ true) × (in_piece (v.end e) ≡ true)
  new_in_piece e h =
      in_new ((in_piece (v.start e) ≡ true) × (in_piece (v.end e) ≡ true)) e h
      (λ s. subst (λ y. (in_piece (v.start y) ≡ true) × (in_piece (v.end y) ≡ true)) (sym s)
      (top_in_piece (v.start m.link) hu, top_in_piece (v.end m.link) (subst (λ w. top_of first feed.before w ≡ Some feed.z) (sym lands) ht)))
      (λ i. let p = in_one e i in
      tree_in_piece e (on_tree (leads_one e i)) (two_ways.within (v.end e) p.1)
      (not_top low_of.0 two_ways.from (v.end e) two_ways.sites two_ways.climb from_reached two_ways.from_under p.1))
      (λ i. let p = in_two e i in
      tree_in_piece e (on_tree (leads_two e i)) (two_ways.other_within (v.end e) p.1)
      (not_top (v.start m.link) two_ways.other (v.end e) two_ways.other_sites two_ways.other_climb other_reached two_ways.other_under p.1))

  old_out : (e : ℕ) → 1 ≤ occurs e feed.links → in_piece (v.start e) ≡ false
  old_out e i =
      false_from_ne_true (in_piece (v.start e)) (λ h. feed.leaves e i (joined_has_top fl feed.before m.turn (v.start e) feed.z feed.is_top h))

  -- no link starts at the site itself
  none_starts : (e : ℕ) → 1 ≤ occurs e new_links → eqb (v.start e) t ≡ true → ⊥
  none_starts e h s =
      all_leaves e (omega (arith, h, parts e, occurs_append e one two)) (subst (λ w. top_of first ys w ≡ Some low_of.0) (sym (eqb-true (v.start e) t s)) low_of.1)

  -- the new links have no cycle: none could go on from the site, and the others are tree links
  new_acyclic : Acyclic v new_links
  new_acyclic w e es walk part =
      let first_there : 1 ≤ occurs e new_links = part e (omega (arith, hit_self e)) in
      let away : eqb w t ≡ false = false_from_ne_true (eqb w t) (λ s. none_starts e first_there (subst (λ y. eqb y t ≡ true) (sym walk.1) s)) in
      tree_acyclic laws v sound fl (one ++ two)
      (λ x i. elim (either (occurs x one) (occurs x two) (omega (arith, i, occurs_append x one two))) [ inl o ↦ on_tree (leads_one x o) | inr o ↦ on_tree (leads_two x o) ])
      w e es walk
      (λ x i.
      let ends = (all_out v (λ y. eqb y t) new_links (λ y j h. absurd (none_starts y j h)) w w (e ∷ es) walk part away x i).1 in
      in_new (1 ≤ occurs x (one ++ two)) x (part x i)
      (λ s. absurd (both_ways (eqb (v.end x) t) ends (eq-eqb (v.end x) t (ap v.end s ∙ lands))))
      (λ o. omega (arith, o, occurs_append x one two))
      (λ o. omega (arith, o, occurs_append x one two)))

  all_acyclic : Acyclic v all
  all_acyclic = acyclic_join v in_piece new_links feed.links all new_or_old new_in_piece old_out new_acyclic feed.acyclic

  -- the list grown from the turn's feeds the site
  pub grown : Feeds k v root first second (t ∷ ys) t
  grown = record {
    before = ys;
    moment = record { later = []; whole = refl };
    z = low_of.0;
    is_top = low_of.1;
    links = all;
    label = m;
    labelled = labelled;
    balance = all_balance;
    once = all_once;
    kinds = λ e h.
        in_parts (Enters v root first second (marks second.labels root (t ∷ ys) t) e ⊎ Leads v root first ys low_of.0 e) e h
        (λ s. inl (subst (λ y. Enters v root first second (marks second.labels root (t ∷ ys) t) y) (sym s) enters_entry))
        (λ i. inr (leads_one e i))
        (λ i. inr (leads_two e i))
        (λ i. elim (feed.kinds e i) [ inl p ↦ inl (enters_old e p) | inr p ↦ inr (leads_old e p) ]);
    marked = λ x h.
        grind (arith, has_cases, marks_are, entry_is, hit_self, has_head, parts, has_tail, feed.marked);
    usable = λ e h.
        in_parts (v.usable e ≡ true) e h
        (λ s. subst (λ y. v.usable y ≡ true) (sym s) usable)
        (λ i. (in_one e i).2)
        (λ i. (in_two e i).2)
        (feed.usable e);
    costs = all_costs;
    leaves = all_leaves;
    acyclic = all_acyclic;
  }
