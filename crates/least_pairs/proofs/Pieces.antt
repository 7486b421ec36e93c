-- The pieces into which a tree falls as sites are struck.
use Rattle.std.proofs.Common.{◌≡◌, ℕ, true, false, List, [], ◌∷◌, ◌++◌, Some, None, Option, sym, refl, ap, ◌∙◌, subst, inl, inr}
use Rattle.std.proofs.lemmas.Bool.{eq-eqb, eqb-true, both_ways, cases_Bool, cases_eq, cond-true, cond-false, false_from_ne_true, true_from_ne_false}
use Rattle.costs.specs.Costs.{Ops}
use Rattle.least_pairs.specs.Runs.{Job, State, has}
use Rattle.least_pairs.specs.Trees.{parent, later, top, same_site, joined}
use Rattle.least_pairs.specs.Plans.{up}
use Rattle.least_pairs.specs.Laws.{RunLaws}
use Rattle.least_pairs.proofs.Options.{some_same}
-- the crates above cite these by the names that stand here
pub use Rattle.least_pairs.proofs.Options.{some_none, cases_option}
use Rattle.least_pairs.proofs.Listed.{has_head, has_tail, lacks_more, lacks_tail}
use Rattle.least_pairs.proofs.Tree.{root_reached, parent_reached, by_parents, up_none, up_root, up_other, up_cases, up_settled, up_reached, up_trans, up_parent_lacks}

-- a top is one of the list, and is not struck
pub top_listed : (S xs : List ℕ) (z : ℕ) → top S xs ≡ Some z → (has z xs ≡ true) × (has z S ≡ false)
top_listed S [] z h = absurd (some_none {o = None} h refl)
top_listed S (x ∷ xs) z h =
    elim (cases_Bool (has x S)) [
      | inl t ↦ absurd (some_none h (cond-true (has x S) None (later (top S xs) x) t))
      | inr f ↦
          let here : later (top S xs) x ≡ Some z = sym (cond-false (has x S) None (later (top S xs) x) f) ∙ h in
          elim (cases_option (top S xs)) [
            | inl n ↦
                let e : x ≡ z = some_same (ap (λ o. later o x) n) here in
                (subst (λ y. has y (x ∷ xs) ≡ true) e (has_head x xs), subst (λ y. has y S ≡ false) e f)
            | inr q ↦
                let e : q.0 ≡ z = some_same (ap (λ o. later o x) q.1) here in
                let r = top_listed S xs z (q.1 ∙ ap Some e) in
                (has_tail z x xs r.0, r.1)
          ]
    ]

-- equal tops are one site
pub same_site_true : (a b : Option ℕ) → same_site a b ≡ true → (z : ℕ) × (a ≡ Some z) × (b ≡ Some z)
same_site_true None b h = absurd (both_ways false refl h)
same_site_true (Some x) None h = absurd (both_ways false refl h)
same_site_true (Some x) (Some y) h = (x, refl, ap Some (sym (eqb-true x y h)))

-- the top of a site's piece
abbrev pub top_of : {C : Type 0} → State C → List ℕ → ℕ → Option ℕ
top_of s S w = top S (up s w)

module _ {C : Type 0} {k : Ops C} {j : Job C} {root : ℕ} {s : State C} (run : RunLaws k j root s) where
  -- joined sites have one top
  pub joined_top : (S : List ℕ) (u w : ℕ) → joined (up s) S u w ≡ true → (z : ℕ) × (top_of s S u ≡ Some z) × (top_of s S w ≡ Some z)
  joined_top S u w h = same_site_true (top_of s S u) (top_of s S w) h

  -- sites with one top are joined
  pub top_joined : (S : List ℕ) (u w z : ℕ) → top_of s S u ≡ Some z → top_of s S w ≡ Some z → joined (up s) S u w ≡ true
  top_joined S u w z p q = ap (λ a. same_site a (top_of s S w)) p ∙ ap (λ b. same_site (Some z) b) q ∙ eq-eqb z z refl

  -- joined is symmetric
  pub joined_sym : (S : List ℕ) (u w : ℕ) → joined (up s) S u w ≡ true → joined (up s) S w u ≡ true
  joined_sym S u w h = let p = joined_top S u w h in top_joined S w u p.0 p.2 p.1

  -- joined is transitive
  pub joined_trans : (S : List ℕ) (u w x : ℕ) → joined (up s) S u w ≡ true → joined (up s) S w x ≡ true → joined (up s) S u x ≡ true
  joined_trans S u w x h g =
      let p = joined_top S u w h in
      let q = joined_top S w x g in
      top_joined S u x p.0 p.1 (q.2 ∙ ap Some (some_same q.1 p.2))

  -- a struck site has no top
  pub top_struck : (S : List ℕ) (w : ℕ) → has w S ≡ true → top_of s S w ≡ None
  top_struck S w h =
      elim (cases_Bool (has w s.order)) [
        | inl t ↦
            elim (cases_eq w root) [
              | inl e ↦ ap (top S) (ap (up s) e ∙ up_root run) ∙ cond-true (has root S) None (Some root) (subst (λ z. has z S ≡ true) e h)
              | inr n ↦ ap (top S) (up_other run w t n) ∙ cond-true (has w S) None (later (top_of s S (parent s.labels w)) w) h
            ]
        | inr f ↦ ap (top S) (up_none run w f)
      ]

  -- a site with a top is not struck
  pub top_free : (S : List ℕ) (w z : ℕ) → top_of s S w ≡ Some z → has w S ≡ false
  top_free S w z h = false_from_ne_true (has w S) (λ t. some_none h (top_struck S w t))

  -- a site with a top is settled
  pub top_reached : (S : List ℕ) (w z : ℕ) → top_of s S w ≡ Some z → has w s.order ≡ true
  top_reached S w z h = true_from_ne_false (has w s.order) (λ f. some_none h (ap (top S) (up_none run w f)))

  -- a top is above, and is not struck
  pub top_above : (S : List ℕ) (w z : ℕ) → top_of s S w ≡ Some z → (has z (up s w) ≡ true) × (has z S ≡ false)
  top_above S w z h = top_listed S (up s w) z h

  -- the root that is not struck is its top
  pub top_root : (S : List ℕ) → has root S ≡ false → top_of s S root ≡ Some root
  top_root S h = ap (top S) (up_root run) ∙ cond-false (has root S) None (Some root) h

  -- the top of another site that is not struck is that of its parent, or itself
  pub top_other : (S : List ℕ) (w : ℕ) → has w s.order ≡ true → (w ≡ root → ⊥) → has w S ≡ false → top_of s S w ≡ later (top_of s S (parent s.labels w)) w
  top_other S w h n f = ap (top S) (up_other run w h n) ∙ cond-false (has w S) None (later (top_of s S (parent s.labels w)) w) f

  -- a settled site that is not struck has a top
  pub top_some : (S : List ℕ) (w : ℕ) → has w s.order ≡ true → has w S ≡ false → (z : ℕ) × (top_of s S w ≡ Some z)
  top_some S w h f =
      elim (cases_eq w root) [
        | inl e ↦ (root, ap (top_of s S) e ∙ top_root S (subst (λ z. has z S ≡ false) e f))
        | inr n ↦
            elim (cases_option (top_of s S (parent s.labels w))) [
              | inl q ↦ (w, top_other S w h n f ∙ ap (λ o. later o w) q)
              | inr q ↦ (q.0, top_other S w h n f ∙ ap (λ o. later o w) q.1)
            ]
      ]

  -- a site whose parent has a top has that top, if it is not struck
  pub top_same : (S : List ℕ) (w z : ℕ) → has w s.order ≡ true → (w ≡ root → ⊥) → has w S ≡ false → top_of s S (parent s.labels w) ≡ Some z → top_of s S w ≡ Some z
  top_same S w z h n f q = top_other S w h n f ∙ ap (λ o. later o w) q

  -- a site whose parent is struck is its own top, if it is not struck
  pub top_self : (S : List ℕ) (w : ℕ) → has w s.order ≡ true → (w ≡ root → ⊥) → has w S ≡ false → has (parent s.labels w) S ≡ true → top_of s S w ≡ Some w
  top_self S w h n f q = top_other S w h n f ∙ ap (λ o. later o w) (top_struck S (parent s.labels w) q)

  -- the parent of a top is struck
  pub top_parent : (S : List ℕ) (w z : ℕ) → top_of s S w ≡ Some z → (z ≡ root → ⊥) → has (parent s.labels z) S ≡ true
  top_parent S w z h nz =
      by_parents run (λ y. top_of s S y ≡ Some z → has (parent s.labels z) S ≡ true)
      (λ q. absurd (nz (some_same q (top_root S (top_free S root z q)))))
      (λ y hy n ih q.
      elim (cases_option (top_of s S (parent s.labels y))) [
        | inl o ↦
            let e : y ≡ z = some_same (top_other S y hy n (top_free S y z q) ∙ ap (λ t. later t y) o) q in
            elim (cases_Bool (has (parent s.labels y) S)) [
              | inl t ↦ subst (λ x. has (parent s.labels x) S ≡ true) e t
              | inr f ↦ absurd (some_none (top_some S (parent s.labels y) (parent_reached run y hy n) f).1 o)
            ]
        | inr o ↦ ih (o.1 ∙ ap Some (some_same (top_same S y o.0 hy n (top_free S y z q) o.1) q))
      ]) w (top_reached S w z h) h

  -- joined sites are not struck
  pub joined_free : (S : List ℕ) (u w : ℕ) → joined (up s) S u w ≡ true → has u S ≡ false
  joined_free S u w h = let p = joined_top S u w h in top_free S u p.0 p.1

  -- joined sites are settled
  pub joined_reached : (S : List ℕ) (u w : ℕ) → joined (up s) S u w ≡ true → has u s.order ≡ true
  joined_reached S u w h = let p = joined_top S u w h in top_reached S u p.0 p.1

  -- a settled site that is not struck is joined to itself
  pub joined_refl : (S : List ℕ) (w : ℕ) → has w s.order ≡ true → has w S ≡ false → joined (up s) S w w ≡ true
  joined_refl S w h f = let p = top_some S w h f in top_joined S w w p.0 p.1 p.1

  -- before anything is struck the root is the top of all settled sites
  pub top_all : (w : ℕ) → has w s.order ≡ true → top_of s [] w ≡ Some root
  top_all w h = by_parents run (λ y. top_of s [] y ≡ Some root) (top_root [] refl) (λ y hy n ih. top_same [] y root hy n refl ih) w h

  -- before anything is struck all settled sites are joined
  pub joined_all : (u w : ℕ) → has u s.order ≡ true → has w s.order ≡ true → joined (up s) [] u w ≡ true
  joined_all u w h g = top_joined [] u w root (top_all u h) (top_all w g)

  -- a site and its parent, neither struck, are joined
  pub joined_parent : (S : List ℕ) (w : ℕ) → has w s.order ≡ true → (w ≡ root → ⊥) → has w S ≡ false → has (parent s.labels w) S ≡ false → joined (up s) S w (parent s.labels w) ≡ true
  joined_parent S w h n f g =
      let p = top_some S (parent s.labels w) (parent_reached run w h n) g in
      top_joined S w (parent s.labels w) p.0 (top_same S w p.0 h n f p.1) p.1

  -- a site joined to another that it is not above has a parent joined to that
  pub joined_climb : (S : List ℕ) (w t : ℕ) → joined (up s) S w t ≡ true → has w (up s t) ≡ false → joined (up s) S (parent s.labels w) t ≡ true
  joined_climb S w t h f =
      let p = joined_top S w t h in
      let reached : has w s.order ≡ true = joined_reached S w t h in
      let free : has w S ≡ false = joined_free S w t h in
      elim (cases_eq w root) [
        | inl e ↦ absurd (both_ways (has w (up s t)) f (subst (λ z. has z (up s t) ≡ true) (some_same p.1 (ap (top_of s S) e ∙ top_root S (subst (λ z. has z S ≡ false) e free)) ∙ sym e) (top_above S t p.0 p.2).0))
        | inr n ↦
            elim (cases_option (top_of s S (parent s.labels w))) [
              | inl o ↦ absurd (both_ways (has w (up s t)) f (subst (λ z. has z (up s t) ≡ true) (some_same p.1 (top_other S w reached n free ∙ ap (λ q. later q w) o)) (top_above S t p.0 p.2).0))
              | inr o ↦ top_joined S (parent s.labels w) t p.0 (o.1 ∙ ap Some (some_same (top_same S w o.0 reached n free o.1) p.1)) p.2
            ]
      ]

  -- where a site above is joined, all between are
  pub joined_between : (S : List ℕ) (a b t : ℕ) → has a (up s b) ≡ true → has b (up s t) ≡ true → joined (up s) S a t ≡ true → joined (up s) S b t ≡ true
  joined_between S a b t hab hbt hj =
      by_parents run (λ y. has b (up s y) ≡ true → joined (up s) S a y ≡ true → joined (up s) S b y ≡ true)
      (λ h g. elim (up_cases run b root h) [
        | inl e ↦ subst (λ z. joined (up s) S z root ≡ true) (sym e) (joined_refl S root (root_reached run) (joined_free S root a (joined_sym S a root g)))
        | inr q ↦ absurd (q.0 refl)
      ])
      (λ y hy n ih h g.
      let p = joined_top S a y g in
      let free : has y S ≡ false = top_free S y p.0 p.2 in
      elim (up_cases run b y h) [
        | inl e ↦ subst (λ z. joined (up s) S z y ≡ true) (sym e) (joined_refl S y hy free)
        | inr q ↦
            elim (cases_option (top_of s S (parent s.labels y))) [
              | inl o ↦
                  let e : p.0 ≡ y = some_same p.2 (top_other S y hy n free ∙ ap (λ z. later z y) o) in
                  let ya : has y (up s a) ≡ true = subst (λ z. has z (up s a) ≡ true) e (top_above S a p.0 p.1).0 in
                  absurd (both_ways (has y (up s (parent s.labels y))) (up_parent_lacks run y hy n) (up_trans run y a (parent s.labels y) ya (up_trans run a b (parent s.labels y) hab q.1)))
              | inr o ↦
                  let same : top_of s S y ≡ Some o.0 = top_same S y o.0 hy n free o.1 in
                  let up_joined : joined (up s) S (parent s.labels y) y ≡ true = top_joined S (parent s.labels y) y o.0 o.1 same in
                  joined_trans S b (parent s.labels y) y (ih q.1 (joined_trans S a y (parent s.labels y) g (joined_sym S (parent s.labels y) y up_joined))) up_joined
            ]
      ]) t (up_settled run b t hbt) hbt hj

  -- with fewer struck, the top is that of the top
  pub top_fewer : (y : ℕ) (S : List ℕ) (w z : ℕ) → top_of s (y ∷ S) w ≡ Some z → top_of s S w ≡ top_of s S z
  top_fewer y S w z h =
      by_parents run (λ x. top_of s (y ∷ S) x ≡ Some z → top_of s S x ≡ top_of s S z)
      (λ q. ap (top_of s S) (some_same (top_root (y ∷ S) (top_free (y ∷ S) root z q)) q))
      (λ x hx n ih q.
      let free : has x (y ∷ S) ≡ false = top_free (y ∷ S) x z q in
      elim (cases_option (top_of s (y ∷ S) (parent s.labels x))) [
        | inl o ↦ ap (top_of s S) (some_same (top_other (y ∷ S) x hx n free ∙ ap (λ t. later t x) o) q)
        | inr o ↦
            let e : o.0 ≡ z = some_same (top_same (y ∷ S) x o.0 hx n free o.1) q in
            let rest : top_of s S (parent s.labels x) ≡ top_of s S z = ih (o.1 ∙ ap Some e) in
            let a = top_above (y ∷ S) x z q in
            let b = top_some S z (up_reached run z x a.0) (lacks_tail z y S a.1) in
            top_same S x b.0 hx n (lacks_tail x y S free) (rest ∙ b.1) ∙ sym b.1
      ]) w (top_reached (y ∷ S) w z h) h

  -- what is joined with more struck is joined with fewer
  pub joined_fewer : (y : ℕ) (S : List ℕ) (u w : ℕ) → joined (up s) (y ∷ S) u w ≡ true → joined (up s) S u w ≡ true
  joined_fewer y S u w h =
      let p = joined_top (y ∷ S) u w h in
      let t = top_fewer y S u p.0 p.1 in
      let q = top_some S u (top_reached (y ∷ S) u p.0 p.1) (lacks_tail u y S (top_free (y ∷ S) u p.0 p.1)) in
      top_joined S u w q.0 q.1 (top_fewer y S w p.0 p.2 ∙ sym t ∙ q.1)

  -- what is joined with more struck later is joined with fewer
  pub joined_before : (more S : List ℕ) (u w : ℕ) → joined (up s) (more ++ S) u w ≡ true → joined (up s) S u w ≡ true
  joined_before [] S u w h = h
  joined_before (y ∷ more) S u w h = joined_before more S u w (joined_fewer y (more ++ S) u w h)

  -- a strike elsewhere does not change a site's top
  pub top_kept : (y : ℕ) (S : List ℕ) (w : ℕ) → has w s.order ≡ true → joined (up s) S y w ≡ false → top_of s (y ∷ S) w ≡ top_of s S w
  top_kept y S w h f =
      by_parents run (λ x. joined (up s) S y x ≡ false → top_of s (y ∷ S) x ≡ top_of s S x)
      (λ g. elim (cases_Bool (has root S)) [
        | inl t ↦ top_struck (y ∷ S) root (has_tail root y S t) ∙ sym (top_struck S root t)
        | inr o ↦
            let differs : root ≡ y → ⊥ = λ e. both_ways (joined (up s) S y root) g (subst (λ z. joined (up s) S z root ≡ true) e (joined_refl S root (root_reached run) o)) in
            top_root (y ∷ S) (lacks_more root y S differs o) ∙ sym (top_root S o)
      ])
      (λ x hx n ih g. elim (cases_Bool (has x S)) [
        | inl t ↦ top_struck (y ∷ S) x (has_tail x y S t) ∙ sym (top_struck S x t)
        | inr o ↦
            let p = parent s.labels x in
            let differs : x ≡ y → ⊥ = λ e. both_ways (joined (up s) S y x) g (subst (λ z. joined (up s) S z x ≡ true) e (joined_refl S x hx o)) in
            let apart : joined (up s) S y p ≡ false = false_from_ne_true (joined (up s) S y p) (λ t. both_ways (joined (up s) S y x) g (joined_trans S y p x t (joined_sym S x p (joined_parent S x hx n o (joined_free S p y (joined_sym S y p t)))))) in
            top_other (y ∷ S) x hx n (lacks_more x y S differs o) ∙ ap (λ t. later t x) (ih apart) ∙ sym (top_other S x hx n o)
      ]) w h f

  -- a strike that parts two sites lies in their piece
  pub joined_parted : (y : ℕ) (S : List ℕ) (u w : ℕ) → joined (up s) S u w ≡ true → joined (up s) (y ∷ S) u w ≡ false → joined (up s) S y u ≡ true
  joined_parted y S u w h f =
      true_from_ne_false (joined (up s) S y u) (λ g. let p = joined_top S u w h in
      let g' : joined (up s) S y w ≡ false = false_from_ne_true (joined (up s) S y w) (λ t. both_ways (joined (up s) S y u) g (joined_trans S y w u t (joined_sym S u w h))) in
      both_ways (joined (up s) (y ∷ S) u w) f
      (top_joined (y ∷ S) u w p.0 (top_kept y S u (top_reached S u p.0 p.1) g ∙ p.1) (top_kept y S w (top_reached S w p.0 p.2) g' ∙ p.2)))
