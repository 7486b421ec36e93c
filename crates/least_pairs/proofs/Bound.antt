-- The lower bound: no pair to a site costs less than its second label and twice its distance.
use Rattle.std.proofs.Common.{◌≡◌, ℕ, ◌≤◌, true, false, cond, ◌⊎◌, List, [], ◌∷◌, ◌++◌, Some, sym, ap, ◌∙◌, subst, inl, inr, arith}
use Rattle.std.proofs.lemmas.Bool.{both_ways, cases_Bool, cond-true, false_from_ne_true}
use Rattle.costs.specs.Costs.{Ops, Laws, Le, total}
use Rattle.costs.specs.Counting.{occurs}
use Rattle.costs.proofs.Order.{le_same, le_trans, le_plus_right, le_difference, le_cancel}
use Rattle.costs.proofs.Totals.{total_append}
use Rattle.costs.proofs.Quoted.{group, by_le, quoting}
use Rattle.least_pairs.specs.Views.{View}
use Rattle.least_pairs.specs.Routes.{Walk, Pair, cost, pair_cost}
use Rattle.least_pairs.specs.Runs.{Label, State, has}
use Rattle.least_pairs.specs.Trees.{parent, joined}
use Rattle.least_pairs.specs.Plans.{first_job, second_job, cost_of, tree_link, reduced, up, tree_route}
use Rattle.least_pairs.specs.Laws.{RunLaws}
use Rattle.least_pairs.proofs.Sight.{SoundView}
use Rattle.least_pairs.proofs.Listed.{lacks_head, has_head, has_right, has_append, has_occurs, occurs_append, moment_of}
use Rattle.least_pairs.proofs.Tree.{root_reached, moment_new, parent_reached, up_self, up_more, up_reached}
use Rattle.least_pairs.proofs.Pieces.{joined_sym, joined_trans, joined_refl, joined_free, joined_climb, joined_between, joined_all, joined_fewer, joined_before}
use Rattle.least_pairs.proofs.Distances.{root_distance, link_reaches, reduced_least, tree_link_of, tree_link_true}
use Rattle.least_pairs.proofs.Walks.{walk_usable, walk_starts, rise, total_rise, total_reduced, total_charged}
use Rattle.least_pairs.proofs.TreeRoutes.{tree_route_walk, tree_route_has, tree_route_from}
use Rattle.least_pairs.proofs.Strikes.{split_cases, rising_cost, later_cost, Parting, parted, parting_offers}

-- the potential of a site for a target: the cost of the strike that parts the two, by the strikes, newest first
abbrev pub potential : {C : Type 0} → Ops C → State C → State C → ℕ → List ℕ → ℕ → C
potential k first second t [] w = k.zero
potential k first second t (y ∷ S) w = cond (joined (up first) S w t) (cost_of k (second.labels y)) (potential k first second t S w)

module _ {C : Type 0} {k : Ops C} {v : View C} {root : ℕ} {first second : State C} (laws : Laws k) (sound : SoundView k v) (tree : RunLaws k (first_job v) root first) (run : RunLaws k (second_job k v root first) root second) where
  -- the potential over the strikes up to a parting
  potential_in : (t w x : ℕ) (mid S : List ℕ) → joined (up first) S w t ≡ true → joined (up first) (x ∷ S) w t ≡ false → potential k first second t (mid ++ x ∷ S) w ≡ cost_of k (second.labels x)
  potential_in t w x [] S h f = cond-true (joined (up first) S w t) (cost_of k (second.labels x)) (potential k first second t S w) h
  potential_in t w x (y ∷ mid) S h f = grind (arith, false_from_ne_true, joined_before tree, potential_in t w x mid S h f)

  -- the potential is the cost of the strike that parts
  pub potential_parted : (t w x : ℕ) (S : List ℕ) → Parting first second w t x S → potential k first second t second.order w ≡ cost_of k (second.labels x)
  potential_parted t w x S p = grind (arith, potential_in)

  -- a struck site is joined to none
  struck_apart : (S : List ℕ) (w t : ℕ) → has w S ≡ true → joined (up first) S w t ≡ false
  struck_apart S w t h =
      false_from_ne_true (joined (up first) S w t) (λ q. both_ways (has w S) (joined_free tree S w t q) h)

  module _ (t : ℕ) (reached : has t first.order ≡ true) (struck : has t second.order ≡ true) where
    -- the potential for the target
    abbrev pub for_target : ℕ → C
    for_target w = potential k first second t second.order w

    -- every reached site was parted from the target
    pub target_parted : (w : ℕ) → has w first.order ≡ true → (x : ℕ) × (S : List ℕ) × Parting first second w t x S
    target_parted w h = grind (arith, parted laws sound tree run, false_from_ne_true, struck_apart, joined_sym tree)

    -- the target's potential is its own cost
    pub potential_target : for_target t ≡ cost_of k (second.labels t)
    potential_target =
        let m = moment_of t second.order struck in
        potential_parted t t t m.0 (record {
          moment = m.1;
          together = joined_refl tree m.0 t reached (moment_new run t m.0 m.1);
          apart = struck_apart (t ∷ m.0) t t (has_head t m.0);
        })

    -- the root's potential is zero
    pub potential_root : for_target root ≡ k.zero
    potential_root =
        potential_parted t root root [] (record {
          moment = run.root_first;
          together = joined_all tree root t (root_reached tree) reached;
          apart = struck_apart (root ∷ []) root t (has_head root []);
        })
        ∙ ap (cost_of k) run.root_label

    -- where a site is joined to the target whenever another is, that other has at most its potential
    pub potential_le : (a b : ℕ) → has a first.order ≡ true → has b first.order ≡ true → ((S : List ℕ) → joined (up first) S a t ≡ true → joined (up first) S b t ≡ true) → Le k (for_target a) (for_target b)
    potential_le a b ha hb follows = grind (arith, target_parted, split_cases, le_same laws, joined_before tree, rising_cost laws run, has_right, has_head, potential_parted)

    -- a link whose start was parted from the target before its end was considered then, so that end costs at most as much more
    potential_later : (e x y : ℕ) (S T mid : List ℕ) → v.usable e ≡ true → tree_link v first root e ≡ false → Parting first second (v.start e) t x S → Parting first second (v.end e) t y T → T ≡ mid ++ x ∷ S → Le k (cost_of k (second.labels y)) (k.plus (cost_of k (second.labels x)) (reduced k v first e))
    potential_later e x y S T mid h nt p q d =
        let a = v.start e in
        let b = v.end e in
        let bt : joined (up first) (x ∷ S) b t ≡ true = joined_before tree mid (x ∷ S) b t (subst (λ l. joined (up first) l b t ≡ true) d q.together) in
        let ab : joined (up first) S a b ≡ true = joined_trans tree S a t b p.together (joined_sym tree S b t (joined_fewer tree x S b t bt)) in
        let parts : joined (up first) (x ∷ S) a b ≡ false =
        false_from_ne_true (joined (up first) (x ∷ S) a b) (λ j. both_ways (joined (up first) (x ∷ S) a t) p.apart (joined_trans tree (x ∷ S) a b t j bt)) in
        let o = parting_offers laws sound tree run e x S h nt (record { moment = p.moment; together = ab; apart = parts }) (lacks_head b x S (joined_free tree (x ∷ S) b t bt)) in
        le_trans laws (later_cost laws run y T q.moment b (run.is_settled b o.0 o.1) (joined_free tree T b t q.together))
        (subst (λ c. Le k c (k.plus (cost_of k (second.labels x)) (reduced k v first e))) (sym (ap (cost_of k) o.1)) o.2)

    -- over a usable link that is no tree link the potential rises by at most the reduced cost
    pub potential_link : (e : ℕ) → v.usable e ≡ true → has (v.start e) first.order ≡ true → tree_link v first root e ≡ false → Le k (for_target (v.end e)) (k.plus (for_target (v.start e)) (reduced k v first e))
    potential_link e h r nt =
        let a = v.start e in
        let b = v.end e in
        let s = reduced k v first e in
        let low : Le k k.zero s = reduced_least laws sound tree e h r in
        let p = target_parted a r in
        let q = target_parted b (link_reaches laws sound tree e h r) in
        let cp = cost_of k (second.labels p.0) in
        let cq = cost_of k (second.labels q.0) in
        let le : Le k cq (k.plus cp s) =
        elim (split_cases q.2.moment.later p.2.moment.later q.0 p.0 q.1 p.1 (sym q.2.moment.whole ∙ p.2.moment.whole)) [
          | inl d ↦ le_trans laws (le_same laws (ap (λ z. cost_of k (second.labels z)) d.0)) (le_plus_right laws cp low)
          | inr (inl d) ↦ potential_later e p.0 q.0 p.1 q.1 d.0 h nt p.2 q.2 d.1
          | inr (inr d) ↦
              le_trans laws
              (rising_cost laws run p.0 p.1 p.2.moment q.0 (subst (λ S. has q.0 S ≡ true) (sym d.1) (has_right q.0 d.0 (q.0 ∷ q.1) (has_head q.0 q.1))))
              (le_plus_right laws cp low)
        ] in
        subst (λ c. Le k c (k.plus (for_target a) s)) (sym (potential_parted t b q.0 q.1 q.2))
        (subst (λ c. Le k cq (k.plus c s)) (sym (potential_parted t a p.0 p.1 p.2)) le)

    -- over a tree link to a site that is not above the target the potential does not rise
    pub potential_tree_off : (w : ℕ) → has w first.order ≡ true → (w ≡ root → ⊥) → has w (up first t) ≡ false → Le k (for_target w) (for_target (parent first.labels w))
    potential_tree_off w h n f = potential_le w (parent first.labels w) h (parent_reached tree w h n) (λ S j. joined_climb tree S w t j f)

    -- over a tree link to a site above the target it does not fall
    pub potential_tree_on : (w : ℕ) → has w (up first t) ≡ true → (w ≡ root → ⊥) → Le k (for_target (parent first.labels w)) (for_target w)
    potential_tree_on w h n =
        let r : has w first.order ≡ true = up_reached tree w t h in
        let p = parent first.labels w in
        potential_le p w (parent_reached tree w r n) r
        (λ S j. joined_between tree S p w t (up_more tree p w r n (up_self tree p (parent_reached tree w r n))) h j)

    -- the tree route of the target
    abbrev pub target_route : List ℕ
    target_route = tree_route first (up first t)

    -- a usable link from a reached site is on the target's tree route, or the potential rises by at most its reduced cost
    pub rise_most : (e : ℕ) → v.usable e ≡ true → has (v.start e) first.order ≡ true → (1 ≤ occurs e target_route) ⊎ Le k (rise laws v for_target e) (reduced k v first e)
    rise_most e h r =
        let pa = for_target (v.start e) in
        let pb = for_target (v.end e) in
        let s = reduced k v first e in
        elim (cases_Bool (tree_link v first root e)) [
          | inr nt ↦ inr (by_le laws (pa ∷ pb ∷ v.cost e ∷ cost_of k (first.labels (v.start e)) ∷ cost_of k (first.labels (v.end e)) ∷ []) (potential_link e h r nt) (search quoting depth 12) tt)
          | inl q ↦
              let c = tree_link_true laws sound tree e q in
              let w = v.end e in
              elim (cases_Bool (has w (up first t))) [
                | inl on ↦ inl (has_occurs e target_route (subst (λ d. has d target_route ≡ true) (sym c.2) (tree_route_has tree w t on c.1)))
                | inr off ↦
                    let tl = tree_link_of laws sound tree w c.0 c.1 in
                    let starts : v.start e ≡ parent first.labels w = ap v.start c.2 ∙ tl.starts in
                    let falls : Le k pb pa = subst (λ z. Le k pb (for_target z)) (sym starts) (potential_tree_off w c.0 c.1 off) in
                    let below : Le k (rise laws v for_target e) k.zero = by_le laws (pa ∷ pb ∷ []) falls (search quoting depth 12) tt in
                    inr (le_trans laws below (reduced_least laws sound tree e h r))
              ]
        ]

    -- over the links of the target's tree route the potential does not fall
    pub rise_least : (e : ℕ) → has e target_route ≡ true → Le k k.zero (rise laws v for_target e)
    rise_least e h =
        let x = tree_route_from tree e t reached h in
        let r : has x.0 first.order ≡ true = up_reached tree x.0 t x.1 in
        let tl = tree_link_of laws sound tree x.0 r x.2 in
        let starts : v.start e ≡ parent first.labels x.0 = ap v.start x.3 ∙ tl.starts in
        let ends : v.end e ≡ x.0 = ap v.end x.3 ∙ tl.ends in
        le_difference laws
        (subst (λ z. Le k (for_target (v.start e)) (for_target z)) (sym ends)
        (subst (λ z. Le k (for_target z) (for_target x.0)) (sym starts) (potential_tree_on x.0 x.1 x.2)))

    -- along a walk from the root to the target the potential rises by the target's cost
    pub rise_walk : (es : List ℕ) → Walk v root es t → total k (rise laws v for_target) es ≡ cost_of k (second.labels t)
    rise_walk es w =
        total_rise laws v for_target es root t w
        ∙ ap (λ c. k.plus (for_target t) (k.negation c)) potential_root
        ∙ group laws (for_target t ∷ []) (search quoting depth 12) tt
        ∙ potential_target

    -- the reduced costs of two routes that share no link add up to at least the target's cost
    pub reduced_pair : (one two : List ℕ) → Pair v root t one two → Le k (cost_of k (second.labels t)) (k.plus (total k (reduced k v first) one) (total k (reduced k v first) two))
    reduced_pair one two p =
        let f : ℕ → C = rise laws v for_target in
        let g : ℕ → C = reduced k v first in
        let c = cost_of k (second.labels t) in
        let single : (e : ℕ) → occurs e (one ++ two) ≤ 1 = λ e. omega (arith, occurs_append e one two, p.apart e) in
        let usable : (e : ℕ) → has e (one ++ two) ≡ true → v.usable e ≡ true =
        λ e h. grind (arith, has_append, walk_usable v, p.first.leads, p.second.leads) in
        let starts : (e : ℕ) → has e (one ++ two) ≡ true → has (v.start e) first.order ≡ true =
        λ e h. grind (arith, has_append, walk_starts laws sound tree, root_reached tree, p.first.leads, p.second.leads) in
        let charged : Le k (total k f (one ++ two)) (k.plus (total k g (one ++ two)) (total k f target_route)) =
        total_charged laws v f g (one ++ two) target_route single
        (λ e h. rise_most e (usable e h) (starts e h))
        (λ e h. reduced_least laws sound tree e (usable e h) (starts e h))
        rise_least in
        let left : total k f (one ++ two) ≡ k.plus c c =
        total_append laws f one two
        ∙ ap (λ z. k.plus z (total k f two)) (rise_walk one p.first.leads)
        ∙ ap (k.plus c) (rise_walk two p.second.leads) in
        let right : k.plus (total k g (one ++ two)) (total k f target_route) ≡ k.plus (k.plus (total k g one) (total k g two)) c =
        ap (λ z. k.plus z (total k f target_route)) (total_append laws g one two)
        ∙ ap (k.plus (k.plus (total k g one) (total k g two))) (rise_walk target_route (tree_route_walk laws sound tree t reached)) in
        let whole : Le k (k.plus c c) (k.plus (k.plus (total k g one) (total k g two)) c) =
        subst (λ z. Le k z (k.plus (k.plus (total k g one) (total k g two)) c)) left (subst (λ z. Le k (total k f (one ++ two)) z) right charged) in
        le_cancel laws c whole

  -- no pair to a site costs less than its second label and twice its distance
  pub pair_least : (t : ℕ) (l d : Label C) → second.labels t ≡ Some l → first.labels t ≡ Some d → (one two : List ℕ) → Pair v root t one two → Le k (k.plus l.cost (k.plus d.cost d.cost)) (pair_cost k v one two)
  pair_least t l d hl hd one two p =
      let reached : has t first.order ≡ true = tree.is_settled t d hd in
      let struck : has t second.order ≡ true = run.is_settled t l hl in
      let a = total k (reduced k v first) one in
      let b = total k (reduced k v first) two in
      let below : Le k l.cost (k.plus a b) = subst (λ c. Le k c (k.plus a b)) (ap (cost_of k) hl) (reduced_pair t reached struck one two p) in
      let each : (es : List ℕ) → Walk v root es t → cost k v es ≡ k.plus d.cost (total k (reduced k v first) es) =
      λ es w.
      total_reduced laws v first es root t w
      ∙ ap (λ c. k.plus (k.plus c (k.negation (cost_of k (first.labels root)))) (total k (reduced k v first) es)) (ap (cost_of k) hd)
      ∙ ap (λ c. k.plus (k.plus d.cost (k.negation c)) (total k (reduced k v first) es)) (root_distance laws sound tree)
      ∙ group laws (d.cost ∷ total k (reduced k v first) es ∷ []) (search quoting depth 12) tt in
      le_trans laws
      (by_le laws (l.cost ∷ d.cost ∷ a ∷ b ∷ []) below (search quoting depth 12) tt)
      (le_same laws (sym (ap (λ z. k.plus z (cost k v two)) (each one p.first.leads) ∙ ap (k.plus (k.plus d.cost a)) (each two p.second.leads))))
