-- The two climbs by which a flow reaches a newly struck site's piece: one ends at the start of its entry link, the other at the top of its piece.
use Rattle.std.proofs.Common.{◌≡◌, ℕ, ◌+◌, true, false, ◌⊎◌, List, ◌∷◌, ◌++◌, Some, sym, refl, ap, ◌∙◌, subst, inl, inr, arith}
use Rattle.std.proofs.lemmas.Bool.{both_ways, cases_Bool, cases_eq, false_from_ne_true, true_from_ne_false}
use Rattle.costs.specs.Costs.{Ops}
use Rattle.costs.specs.Counting.{hit}
use Rattle.least_pairs.specs.Runs.{Job, State, has}
use Rattle.least_pairs.specs.Trees.{parent, joined}
use Rattle.least_pairs.specs.Plans.{up}
use Rattle.least_pairs.specs.Laws.{RunLaws}
use Rattle.least_pairs.proofs.Listed.{lacks_more, has_head, has_right}
use Rattle.least_pairs.proofs.Tree.{root_reached, parent_reached, by_parents, up_settled, up_reached, up_self, up_more, up_cases, up_trans, up_antisym}
use Rattle.least_pairs.proofs.Options.{some_same}
use Rattle.least_pairs.proofs.Pieces.{top_of, joined_top, top_joined, joined_sym, joined_trans, top_free, top_reached, top_above, top_root, top_self, top_parent, joined_free, joined_refl, joined_parent, joined_climb, joined_between, joined_fewer, joined_before}
use Rattle.least_pairs.proofs.Climbs.{Climb, climb_of, climb_under, climb_over, climb_apart, climb_not_root}

module _ {C : Type 0} {k : Ops C} {j : Job C} {root : ℕ} {s : State C} (run : RunLaws k j root s) where
  -- a top is its own top
  pub top_top : (S : List ℕ) (w z : ℕ) → top_of s S w ≡ Some z → top_of s S z ≡ Some z
  top_top S w z h =
      let a = top_above run S w z h in
      elim (cases_eq z root) [
        | inl e ↦ subst (λ y. top_of s S y ≡ Some y) (sym e) (top_root run S (subst (λ y. has y S ≡ false) e a.1))
        | inr d ↦ top_self run S z (up_reached run z w a.0) d a.1 (top_parent run S w z h d)
      ]

  -- the sites between a site and its top have that top
  pub top_between : (S : List ℕ) (w x z : ℕ) → top_of s S w ≡ Some z → has x (up s w) ≡ true → has z (up s x) ≡ true → top_of s S x ≡ Some z
  top_between S w x z h hx hz = grind (arith, top_joined run, top_top, joined_top run, joined_between run, some_same)

  -- a site joined to another has its top
  pub joined_has_top : (S : List ℕ) (q u z : ℕ) → top_of s S q ≡ Some z → joined (up s) S q u ≡ true → top_of s S u ≡ Some z
  joined_has_top S q u z h g = let p = joined_top run S q u g in p.2 ∙ ap Some (some_same p.1 h)

  -- the parent of a site that is not its top has that top
  pub top_inner : (S : List ℕ) (x z : ℕ) → top_of s S x ≡ Some z → (x ≡ z → ⊥) → top_of s S (parent s.labels x) ≡ Some z
  top_inner S x z h d =
      let ztop = top_top S x z h in
      let lacks : has x (up s z) ≡ false = false_from_ne_true (has x (up s z)) (λ t. d (up_antisym run x z t (top_above run S x z h).0)) in
      joined_has_top S z (parent s.labels x) z ztop (joined_sym run S (parent s.labels x) z (joined_climb run S x z (top_joined run S x z z h ztop) lacks))

  -- a site and one above it in its piece stay joined when a site that is not between them is struck
  pub joined_past : (q : ℕ) (S : List ℕ) (x u : ℕ) → has x (up s u) ≡ true → joined (up s) S x u ≡ true → ((y : ℕ) → has y (up s u) ≡ true → has x (up s y) ≡ true → y ≡ q → ⊥) → joined (up s) (q ∷ S) x u ≡ true
  joined_past q S x u hx hj clear =
      by_parents run (λ z. has x (up s z) ≡ true → joined (up s) S x z ≡ true → ((y : ℕ) → has y (up s z) ≡ true → has x (up s y) ≡ true → y ≡ q → ⊥) → joined (up s) (q ∷ S) x z ≡ true)
      (λ h g c. grind (arith, up_cases run, lacks_more, up_self run, root_reached run, joined_free run, joined_sym run, joined_refl run))
      (λ z hz d ih h g c.
      let free : has z (q ∷ S) ≡ false = lacks_more z q S (c z (up_self run z hz) h) (joined_free run S z x (joined_sym run S x z g)) in
      elim (up_cases run x z h) [
        | inl e ↦ subst (λ y. joined (up s) (q ∷ S) y z ≡ true) (sym e) (joined_refl run (q ∷ S) z hz free)
        | inr t ↦
            let p = parent s.labels z in
            let pz : has p (up s z) ≡ true = up_more run p z hz d (up_self run p (parent_reached run z hz d)) in
            let jpz : joined (up s) S p z ≡ true = joined_between run S x p z t.1 pz g in
            let jxp : joined (up s) (q ∷ S) x p ≡ true = ih t.1 (joined_trans run S x z p g (joined_sym run S p z jpz)) (λ y hy. c y (up_more run y z hz d hy)) in
            let pfree : has p (q ∷ S) ≡ false = joined_free run (q ∷ S) p x (joined_sym run (q ∷ S) x p jxp) in
            joined_trans run (q ∷ S) x p z jxp (joined_sym run (q ∷ S) z p (joined_parent run (q ∷ S) z hz d free pfree))
      ]) u (up_settled run x u hx) hx hj clear

-- two climbs from a struck site q and the top z of its piece before S: one to the top of a later piece, the other to a site u that lies elsewhere; they keep within the piece of q, share no site, and the second, with the parents of its sites, keeps out of the later piece
pub record Ways {C : Type 0} (s : State C) (q : ℕ) (S : List ℕ) (z u : ℕ) (later : List ℕ) (low : ℕ) : Type 0 where
  pub from : ℕ
  pub other : ℕ
  pub ends : (y : ℕ) → hit y from + hit y other ≡ hit y q + hit y z
  pub from_under : has z (up s from) ≡ true
  pub other_under : has z (up s other) ≡ true
  pub sites : List ℕ
  pub other_sites : List ℕ
  pub climb : Climb s low from sites
  pub other_climb : Climb s u other other_sites
  pub within : (x : ℕ) → has x sites ≡ true → top_of s S x ≡ Some z
  pub other_within : (x : ℕ) → has x other_sites ≡ true → top_of s S x ≡ Some z
  pub apart : (x : ℕ) → has x sites ≡ true → has x other_sites ≡ true → ⊥
  pub other_out : (x : ℕ) → has x other_sites ≡ true → top_of s later x ≡ Some low → ⊥
  pub other_starts : (x : ℕ) → has x other_sites ≡ true → top_of s later (parent s.labels x) ≡ Some low → ⊥

module _ {C : Type 0} {k : Ops C} {j : Job C} {root : ℕ} {s : State C} (run : RunLaws k j root s)
    (q : ℕ) (S : List ℕ) (z : ℕ) (hq : top_of s S q ≡ Some z)
    (u t : ℕ) (hu : top_of s S u ≡ Some z) (ht : top_of s S t ≡ Some z)
    (parted : (u ≡ q) ⊎ (joined (up s) (q ∷ S) u t ≡ false))
    (more : List ℕ) (low : ℕ) (hlow : top_of s (more ++ q ∷ S) t ≡ Some low) where
  -- the top of the later piece stays with its site when q is struck
  low_joined : joined (up s) (q ∷ S) low t ≡ true
  low_joined = joined_before run more (q ∷ S) low t (top_joined run (more ++ q ∷ S) low t low (top_top run (more ++ q ∷ S) t low hlow) hlow)

  low_top : top_of s S low ≡ Some z
  low_top = let p = joined_top run S low t (joined_fewer run q S low t low_joined) in p.1 ∙ ap Some (some_same p.2 ht)

  -- a site of the later piece is joined to its site when q is struck
  in_later : (x : ℕ) → top_of s (more ++ q ∷ S) x ≡ Some low → joined (up s) (q ∷ S) x t ≡ true
  in_later x h = joined_before run more (q ∷ S) x t (top_joined run (more ++ q ∷ S) x t low h hlow)

  -- where a site of the piece of q is not joined to the later piece's when q is struck, its parent is not in the later piece
  starts_out : (x : ℕ) → (x ≡ root → ⊥) → top_of s S x ≡ Some z → (x ≡ q → ⊥) → (joined (up s) (q ∷ S) x t ≡ true → ⊥) → top_of s (more ++ q ∷ S) (parent s.labels x) ≡ Some low → ⊥
  starts_out x d h n out g =
      let p = parent s.labels x in
      let pt = in_later p g in
      let free : has x (q ∷ S) ≡ false = lacks_more x q S n (top_free run S x z h) in
      out (joined_trans run (q ∷ S) x p t (joined_parent run (q ∷ S) x (top_reached run S x z h) d free (joined_free run (q ∷ S) p t pt)) pt)

  -- the start of the entry link is not in the later piece
  pub start_out : top_of s (more ++ q ∷ S) u ≡ Some low → ⊥
  start_out h = grind (arith, top_free run, has_right, has_head, in_later)

  q_under : has z (up s q) ≡ true
  q_under = (top_above run S q z hq).0

  z_under : has z (up s z) ≡ true
  z_under = up_self run z (up_reached run z q q_under)

  q_reached : has q s.order ≡ true
  q_reached = top_reached run S q z hq

  -- the struck site is above the start of the entry link
  ways_under : has q (up s u) ≡ true → Ways s q S z u (more ++ q ∷ S) low
  ways_under h =
      let a = climb_of run z low (top_above run S low z low_top).0 in
      let b = climb_of run q u h in
      let zr = up_reached run z q q_under in
      let inside : (x : ℕ) → has x b.0 ≡ true → top_of s S x ≡ Some z =
      λ x i. top_between run S u x z hu (climb_over run u q x b.0 b.1 i) (up_trans run z q x q_under (climb_under run u q x b.0 b.1 q_reached i)) in
      let not_past : (x : ℕ) → has x b.0 ≡ true → (y : ℕ) → has x (up s y) ≡ true → y ≡ q → ⊥ =
      λ x i y g e. climb_apart run u q x b.0 b.1 q_reached i (up_antisym run x q (subst (λ w. has x (up s w) ≡ true) e g) (climb_under run u q x b.0 b.1 q_reached i)) in
      let out : (x : ℕ) → has x b.0 ≡ true → joined (up s) (q ∷ S) x t ≡ true → ⊥ =
      λ x i g. elim parted [
        | inl e ↦ not_past x i u (climb_over run u q x b.0 b.1 i) e
        | inr f ↦
            let xu = joined_past run q S x u (climb_over run u q x b.0 b.1 i) (top_joined run S x u z (inside x i) hu) (λ y hy gy. not_past x i y gy) in
            both_ways (joined (up s) (q ∷ S) u t) f (joined_trans run (q ∷ S) u x t (joined_sym run (q ∷ S) x u xu) g)
      ] in
      record {
        from = z;
        other = q;
        ends = λ y. omega arith;
        from_under = z_under;
        other_under = q_under;
        sites = a.0;
        other_sites = b.0;
        climb = a.1;
        other_climb = b.1;
        within = λ x i. top_between run S low x z low_top (climb_over run low z x a.0 a.1 i) (climb_under run low z x a.0 a.1 zr i);
        other_within = inside;
        apart = λ x i o.
            grind (arith, climb_over run, joined_past run, top_joined run, low_top, joined_trans run, low_joined);
        other_out = λ x o g. out x o (in_later x g);
        other_starts = λ x o. starts_out x (climb_not_root run u q x b.0 b.1 q_reached o) (inside x o) (climb_apart run u q x b.0 b.1 q_reached o) (out x o);
      }

  -- it is not
  ways_beside : has q (up s u) ≡ false → Ways s q S z u (more ++ q ∷ S) low
  ways_beside h =
      let zr = up_reached run z q q_under in
      let zu = (top_above run S u z hu).0 in
      let not_past : (y : ℕ) → has y (up s u) ≡ true → y ≡ q → ⊥ = λ y g e. both_ways (has q (up s u)) h (subst (λ w. has w (up s u) ≡ true) e g) in
      let cut : joined (up s) (q ∷ S) u t ≡ false = grind (arith, up_self run, top_reached run) in
      let past_u : (x : ℕ) → has x (up s u) ≡ true → top_of s S x ≡ Some z → joined (up s) (q ∷ S) u x ≡ true =
      λ x g i. joined_sym run (q ∷ S) x u (joined_past run q S x u g (top_joined run S x u z i hu) (λ y hy gy. not_past y hy)) in
      let above : has q (up s low) ≡ true = true_from_ne_false (has q (up s low)) (λ f. let ztop = top_top run S u z hu in
      let zl = joined_past run q S z low (top_above run S low z low_top).0 (top_joined run S z low z ztop low_top) (λ y hy gy e. both_ways (has q (up s low)) f (subst (λ w. has w (up s low) ≡ true) e hy)) in
      both_ways (joined (up s) (q ∷ S) u t) cut (joined_trans run (q ∷ S) u z t (past_u z zu ztop) (joined_trans run (q ∷ S) z low t zl low_joined))) in
      let a = climb_of run q low above in
      let b = climb_of run z u zu in
      let inside : (x : ℕ) → has x b.0 ≡ true → top_of s S x ≡ Some z =
      λ x i. top_between run S u x z hu (climb_over run u z x b.0 b.1 i) (climb_under run u z x b.0 b.1 zr i) in
      let out : (x : ℕ) → has x b.0 ≡ true → joined (up s) (q ∷ S) x t ≡ true → ⊥ =
      λ x o g. both_ways (joined (up s) (q ∷ S) u t) cut (joined_trans run (q ∷ S) u x t (past_u x (climb_over run u z x b.0 b.1 o) (inside x o)) g) in
      record {
        from = q;
        other = z;
        ends = λ y. refl;
        from_under = q_under;
        other_under = z_under;
        sites = a.0;
        other_sites = b.0;
        climb = a.1;
        other_climb = b.1;
        within = λ x i. top_between run S low x z low_top (climb_over run low q x a.0 a.1 i) (up_trans run z q x q_under (climb_under run low q x a.0 a.1 q_reached i));
        other_within = inside;
        apart = λ x i o. both_ways (has q (up s u)) h (up_trans run q x u (climb_under run low q x a.0 a.1 q_reached i) (climb_over run u z x b.0 b.1 o));
        other_out = λ x o g. out x o (in_later x g);
        other_starts = λ x o. starts_out x (climb_not_root run u z x b.0 b.1 zr o) (inside x o) (not_past x (climb_over run u z x b.0 b.1 o)) (out x o);
      }

  -- a site of the later piece was in the piece of q, whose top is above the later top
  pub later_top : (x : ℕ) → top_of s (more ++ q ∷ S) x ≡ Some low → top_of s S x ≡ Some z
  later_top x h = let p = joined_top run S x t (joined_fewer run q S x t (in_later x h)) in p.1 ∙ ap Some (some_same p.2 ht)

  pub low_under : has z (up s low) ≡ true
  low_under = (top_above run S low z low_top).0

  -- there are two such climbs
  pub ways : Ways s q S z u (more ++ q ∷ S) low
  ways = elim (cases_Bool (has q (up s u))) [ inl h ↦ ways_under h | inr h ↦ ways_beside h ]
