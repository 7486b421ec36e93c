-- The cutting link: a reached site without a second label is cut off by the tree link of its last piece's top.
use Rattle.std.proofs.Common.{◌≡◌, ℕ, ◌≤◌, true, false, List, [], ◌∷◌, ◌++◌, Some, None, Option, sym, refl, ap, ◌∙◌, subst, inl, inr, arith}
use Rattle.std.proofs.lemmas.Bool.{both_ways, cases_Bool, cases_eq, cond-false, false_from_ne_true}
use Rattle.costs.specs.Costs.{Ops, Laws}
use Rattle.costs.specs.Counting.{occurs}
use Rattle.least_pairs.specs.Views.{View, without}
use Rattle.least_pairs.specs.Routes.{Walk, Route, Pair, NoRoute, Shared, Before, FirstShared}
use Rattle.least_pairs.specs.Runs.{Label, State, has}
use Rattle.least_pairs.specs.Trees.{parent, joined}
use Rattle.least_pairs.specs.Plans.{first_job, second_job, first_run, tree_link, up, link_of, tree_route, labelled, first_cut, one_link}
use Rattle.least_pairs.specs.Laws.{RunLaws}
use Rattle.least_pairs.specs.Rightness.{Says}
use Rattle.least_pairs.proofs.Sight.{SoundView}
use Rattle.least_pairs.proofs.Listed.{has_head, has_tail, has_cases, has_append, has_parts, has_occurs, occurs_has, lacks_occurs, occurs_lacks, occurs_append}
use Rattle.least_pairs.proofs.Moments.{moment_has}
use Rattle.least_pairs.proofs.Tree.{root_reached, up_reached}
use Rattle.least_pairs.proofs.Options.{some_none, some_same}
use Rattle.least_pairs.proofs.Pieces.{top_of, joined_sym, joined_trans, joined_free, joined_parent, joined_top, top_joined, top_some, top_self, top_above, top_parent, top_free, top_reached}
use Rattle.least_pairs.proofs.Distances.{link_reaches, tree_link_of, tree_link_true}
use Rattle.least_pairs.proofs.Walks.{walk_append, walk_parts, walk_reaches}
use Rattle.least_pairs.proofs.TreeRoutes.{tree_route_walk, tree_route_has, tree_route_once}
use Rattle.least_pairs.proofs.Strikes.{parted, parting_offers}
use Rattle.least_pairs.proofs.Detours.{walk_route, walk_without, walk_with, sound_without}

module _ {C : Type 0} {k : Ops C} {v : View C} {root : ℕ} {first : State C} (laws : Laws k) (sound : SoundView k v) (tree : RunLaws k (first_job v) root first) where
  -- no route leads to a site that is not reached
  pub not_reached : (t : ℕ) → first.labels t ≡ None → NoRoute v root t
  not_reached t h es r = grind (arith, walk_reaches laws sound tree, root_reached tree, some_none)

  -- a route leads to every reached site but the root
  pub reached_route : (t : ℕ) → has t first.order ≡ true → (t ≡ root → ⊥) → (es : List ℕ) × Route v root t es
  reached_route t h n = grind (arith, walk_route v, tree_route_walk laws sound tree)

module _ {C : Type 0} {k : Ops C} {v : View C} {root : ℕ} {first second : State C} (laws : Laws k) (sound : SoundView k v) (tree : RunLaws k (first_job v) root first) (run : RunLaws k (second_job k v root first) root second) where
  module _ (t z : ℕ) (last : top_of first second.order t ≡ Some z) where
    -- the top of the last piece is not the root
    pub top_not_root : z ≡ root → ⊥
    top_not_root e = both_ways (has z second.order) (top_above tree second.order t z last).1 (subst (λ y. has y second.order ≡ true) (sym e) (root_reached run))

    -- the cutting link
    abbrev pub cut : ℕ
    cut = link_of (first.labels z)

    -- only the cutting link leads into the last piece
    pub only_cut : (e : ℕ) → v.usable e ≡ true → has (v.start e) first.order ≡ true → joined (up first) second.order (v.start e) t ≡ false → joined (up first) second.order (v.end e) t ≡ true → e ≡ cut
    only_cut e h r out into =
        let K = second.order in
        let a = v.start e in
        let b = v.end e in
        elim (cases_Bool (tree_link v first root e)) [
          | inl q ↦
              let c = tree_link_true laws sound tree e q in
              let starts : a ≡ parent first.labels b = ap v.start c.2 ∙ (tree_link_of laws sound tree b c.0 c.1).starts in
              let p = joined_top tree K b t into in
              let free : has b K ≡ false = joined_free tree K b t into in
              elim (cases_Bool (has (parent first.labels b) K)) [
                | inl s ↦ c.2 ∙ ap (λ w. link_of (first.labels w)) (some_same (top_self tree K b c.0 c.1 free s) p.1 ∙ some_same p.2 last)
                | inr f ↦
                    grind (arith, joined_trans tree, joined_sym tree, joined_parent tree)
              ]
          | inr nt ↦
              grind (arith, false_from_ne_true, joined_trans tree, parted laws sound tree run, link_reaches laws sound tree, joined_free tree, parting_offers laws sound tree run, moment_has, run.is_settled)
        ]

    -- the target is joined to itself
    target_joined : joined (up first) second.order t t ≡ true
    target_joined = top_joined tree second.order t t z last last

    -- every walk into the last piece uses the cutting link
    pub walk_cut : (es : List ℕ) (a : ℕ) → has a first.order ≡ true → joined (up first) second.order a t ≡ false → Walk v a es t → has cut es ≡ true
    walk_cut [] a r out w = absurd (both_ways (joined (up first) second.order a t) out (subst (λ y. joined (up first) second.order y t ≡ true) (sym w) target_joined))
    walk_cut (x ∷ es) a r out w =
        let r' : has (v.start x) first.order ≡ true = subst (λ y. has y first.order ≡ true) (sym w.1) r in
        let out' : joined (up first) second.order (v.start x) t ≡ false = subst (λ y. joined (up first) second.order y t ≡ false) (sym w.1) out in
        elim (cases_Bool (joined (up first) second.order (v.end x) t)) [
          | inl j ↦ subst (λ y. has y (x ∷ es) ≡ true) (only_cut x w.0 r' out' j) (has_head x es)
          | inr f ↦ has_tail cut x es (walk_cut es (v.end x) (link_reaches laws sound tree x w.0 r') f w.2)
        ]

    -- every walk from the root to the target uses the cutting link
    pub root_walk_cut : (es : List ℕ) → Walk v root es t → has cut es ≡ true
    root_walk_cut es w = grind (arith, walk_cut, root_reached tree, false_from_ne_true, joined_free tree, root_reached run)

    -- so every route does
    pub cut_shared : Shared v root t cut
    cut_shared es r = has_occurs cut es (root_walk_cut es r.leads)

-- what has a label is labelled
labelled_true : {C : Type 0} (o : Option (Label C)) → labelled o ≡ true → (l : Label C) × (o ≡ Some l)
labelled_true None h = absurd (both_ways false refl h)
labelled_true (Some l) h = (l, refl)

-- the search passes the links without which the target is within reach and ends at the first without which it is not
first_cut_in : {C : Type 0} (k : Ops C) (v : View C) (root t e : ℕ) (front back : List ℕ) → ((f : ℕ) → has f front ≡ true → labelled ((first_run k (without f v) root).labels t) ≡ true) → labelled ((first_run k (without e v) root).labels t) ≡ false → first_cut k v root t (front ++ e ∷ back) ≡ e
first_cut_in k v root t e [] back pass stop = cond-false (labelled ((first_run k (without e v) root).labels t)) (first_cut k v root t back) e stop
first_cut_in k v root t e (f ∷ front) back pass stop = grind (arith, has_head, has_tail, first_cut_in k v root t e front back (λ g h. pass g (has_tail g f front h)) stop)

module _ {C : Type 0} {k : Ops C} {v : View C} {root : ℕ} {first second : State C} (laws : Laws k) (sound : SoundView k v) (tree : RunLaws k (first_job v) root first) (run : RunLaws k (second_job k v root first) root second)
    (pairs : (w : ℕ) (l : Label C) → second.labels w ≡ Some l → (w ≡ root → ⊥) → (one two : List ℕ) × Pair v root w one two) (t z : ℕ) (last : top_of first second.order t ≡ Some z) where
  -- the target is not the root
  target_not_root : root ≡ t → ⊥
  target_not_root e = both_ways (has t second.order) (top_free tree second.order t z last) (subst (λ y. has y second.order ≡ true) e (root_reached run))

  -- whatever link is left out, a walk leads to the start of the cutting link
  cut_start : (f : ℕ) → (ws : List ℕ) × Walk v root ws (parent first.labels z) × (has f ws ≡ false)
  cut_start f =
      let p = parent first.labels z in
      elim (cases_eq p root) [
        | inl e ↦ ([], sym e, refl)
        | inr n ↦
            let l = run.has_label p (top_parent tree second.order t z last (top_not_root laws sound tree run t z last)) in
            let two = pairs p l.0 l.1 n in
            elim (cases_Bool (has f two.0)) [
              | inl q ↦ (two.1, two.2.second.leads, occurs_lacks f two.1 (omega (arith, two.2.apart f, has_occurs f two.0 q)))
              | inr q ↦ (two.0, two.2.first.leads, q)
            ]
      ]

  -- a link that a route meets before the cutting link can be avoided
  detour : (f : ℕ) (es front back : List ℕ) → occurs f es ≤ 1 → Walk v root es t → es ≡ front ++ link_of (first.labels z) ∷ back → has f front ≡ true → (ws : List ℕ) × Walk v root ws t × (has f ws ≡ false)
  detour f es front back once w whole h =
      let c = link_of (first.labels z) in
      let p = parent first.labels z in
      let reached : has z first.order ≡ true = up_reached tree z t (top_above tree second.order t z last).0 in
      let tl = tree_link_of laws sound tree z reached (top_not_root laws sound tree run t z last) in
      let rest = walk_parts v front (c ∷ back) root t (subst (λ l. Walk v root l t) whole w) in
      let none : occurs f (c ∷ back) ≡ 0 = omega (arith, ap (occurs f) whole, occurs_append f front (c ∷ back), has_occurs f front h) in
      let s = cut_start f in (
        s.0 ++ c ∷ back,
        walk_append v s.0 (c ∷ back) root p t s.1 (tl.usable, tl.starts, rest.2.2),
        occurs_lacks f (s.0 ++ c ∷ back) (omega (arith, occurs_append f s.0 (c ∷ back), lacks_occurs f s.0 s.2)),
      )

  -- of the links that all routes use, each route meets the cutting link first
  pub cut_first_shared : FirstShared v root t (link_of (first.labels z))
  cut_first_shared = record {
    shared = cut_shared laws sound tree run t z last;
    first = λ f all n es r.
        let c = link_of (first.labels z) in
        let p = has_parts c es (root_walk_cut laws sound tree run t z last es r.leads) in
        let back : has f p.1 ≡ true → Before c f es = λ q. record { front = p.0; back = p.1; whole = p.2; later = has_occurs f p.1 q } in
        elim (has_append f p.0 (c ∷ p.1) (sym (ap (has f) p.2) ∙ occurs_has f es (all es r))) [
          | inl q ↦
              let d = detour f es p.0 p.1 (r.once f) r.leads p.2 q in
              let s = walk_route v d.0 root t target_not_root d.1 in
              absurd (both_ways (has f d.0) d.2 (s.2 f (occurs_has f s.0 (all s.0 s.1))))
          | inr q ↦ elim (has_cases f c p.1 q) [ inl e ↦ absurd (n e) | inr b ↦ back b ]
        ];
  }

  module _ (outs : (e : ℕ) → RunLaws k (first_job (without e v)) root (first_run k (without e v) root)) where
    -- with a link left out that some walk avoids the target is reached
    avoided_labelled : (f : ℕ) (ws : List ℕ) → Walk v root ws t → has f ws ≡ false → labelled ((first_run k (without f v) root).labels t) ≡ true
    avoided_labelled f ws w h =
        let l = (outs f).has_label t (walk_reaches laws (sound_without sound f) (outs f) ws root t (walk_without v f ws root t w h) (root_reached (outs f))) in
        ap labelled l.1

    -- with the cutting link left out it is not
    cut_not_labelled : labelled ((first_run k (without (link_of (first.labels z)) v) root).labels t) ≡ false
    cut_not_labelled =
        let c = link_of (first.labels z) in
        let s = first_run k (without c v) root in
        false_from_ne_true (labelled (s.labels t)) (λ q. let l = labelled_true (s.labels t) q in
        let r : has t s.order ≡ true = (outs c).is_settled t l.0 l.1 in
        let w = walk_with v c (tree_route s (up s t)) root t (tree_route_walk laws (sound_without sound c) (outs c) t r) in
        both_ways (has c (tree_route s (up s t))) w.1 (root_walk_cut laws sound tree run t z last (tree_route s (up s t)) w.0))

    -- the search along the tree route ends at the cutting link
    pub first_cut_is : first_cut k v root t (tree_route first (up first t)) ≡ link_of (first.labels z)
    first_cut_is =
        let c = link_of (first.labels z) in
        let es = tree_route first (up first t) in
        let reached : has t first.order ≡ true = top_reached tree second.order t z last in
        let w = tree_route_walk laws sound tree t reached in
        let p = has_parts c es (tree_route_has tree z t (top_above tree second.order t z last).0 (top_not_root laws sound tree run t z last)) in
        ap (first_cut k v root t) p.2
        ∙ first_cut_in k v root t c p.0 p.1
        (λ f h. let d = detour f es p.0 p.1 (tree_route_once laws sound tree t reached f) w p.2 h in avoided_labelled f d.0 d.1 d.2)
        cut_not_labelled

    -- what the search finds is right
    pub says_cut : Says k v root t (one_link (first_cut k v root t (tree_route first (up first t))))
    says_cut = grind (arith, reached_route laws sound tree, top_reached tree, target_not_root, first_cut_is, cut_first_shared)

module _ {C : Type 0} {k : Ops C} {v : View C} {root : ℕ} {first second : State C} (laws : Laws k) (sound : SoundView k v) (tree : RunLaws k (first_job v) root first) (run : RunLaws k (second_job k v root first) root second) where
  -- a reached site without a second label has a last piece with a top
  pub last_top : (t : ℕ) (d : Label C) → first.labels t ≡ Some d → second.labels t ≡ None → (z : ℕ) × (top_of first second.order t ≡ Some z)
  last_top t d hd hn = grind (arith, top_some tree, false_from_ne_true, some_none)

  -- the answer for a reached site without a second label is right
  pub says_one_link : (pairs : (w : ℕ) (l : Label C) → second.labels w ≡ Some l → (w ≡ root → ⊥) → (one two : List ℕ) × Pair v root w one two) (outs : (e : ℕ) → RunLaws k (first_job (without e v)) root (first_run k (without e v) root)) (t : ℕ) (d : Label C) → first.labels t ≡ Some d → second.labels t ≡ None → Says k v root t (one_link (first_cut k v root t (tree_route first (up first t))))
  says_one_link pairs outs t d hd hn = let p = last_top t d hd hn in says_cut laws sound tree run pairs t p.0 p.1 outs
