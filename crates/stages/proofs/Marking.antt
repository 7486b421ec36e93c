-- Making the marks new gives the tops with one more site struck.
use Rattle.std.proofs.Common.{◌≡◌, ℕ, ◌<◌, ◌≤◌, true, false, cond, ◌||◌, eqb, List, [], ◌∷◌, length, get_or, Some, sym, refl, ap, ◌∙◌, subst, inl, inr, arith, length-set, get_or-set_other, get_or-set_same}
use Rattle.std.proofs.lemmas.Bool.{eq-eqb, ne_eqb, or_left, or_right, or_from, cases_Bool, cases_eq, cond-true, cond-false, both_ways}
use Rattle.costs.specs.Costs.{Ops}
use Rattle.least_pairs.specs.Runs.{Job, State, has}
use Rattle.least_pairs.specs.Trees.{turn_of, parent, later, top}
use Rattle.least_pairs.specs.Laws.{Moment, RunLaws}
use Rattle.least_pairs.proofs.Listed.{has_head, has_cases, lacks_tail, lacks_head}
use Rattle.least_pairs.proofs.Older.{Older, older_all, older_before, older_has, moment_older, moment_once}
use Rattle.least_pairs.proofs.Tree.{up_none, up_reached}
use Rattle.least_pairs.proofs.Pieces.{cases_option, top_of, top_struck, top_some, top_root, top_other, top_above}
use Rattle.stages.specs.Marks.{mark, Marked, mark_or, new_mark, renewed}

module _ (parents : List ℕ) (root y : ℕ) (table : List ℕ) where
  -- a table keeps its length
  pub length_renewed : (T : List ℕ) → length (renewed parents root y T table) ≡ length table
  length_renewed [] = refl
  length_renewed (x ∷ T) = length-set (renewed parents root y T table) x (new_mark parents root y (renewed parents root y T table) x) ∙ length_renewed T

  -- other sites keep their marks
  pub still : (T : List ℕ) (w : ℕ) → has w T ≡ false → get_or (renewed parents root y T table) w 0 ≡ get_or table w 0
  still [] w h = refl
  still (x ∷ T) w h = get_or-set_other (renewed parents root y T table) x w (new_mark parents root y (renewed parents root y T table) x) 0 (lacks_head w x T h) ∙ still T w (lacks_tail w x T h)

-- a mark that is there is no more than none
mark_there : (m w : ℕ) → m < 65535 → mark_or m w ≡ m
mark_there m w h = cond-false (eqb m 65535) w m (ne_eqb m 65535 (λ e. omega arith))

module _ {C : Type 0} {k : Ops C} {j : Job C} {root : ℕ} {s : State C} (run : RunLaws k j root s) (few : j.sites < 65535) where
  -- a top is a site
  pub top_site : (S : List ℕ) (w z : ℕ) → top_of s S w ≡ Some z → z < j.sites
  top_site S w z h = run.sites z (up_reached run z w (top_above run S w z h).0)

  module _ (parents : List ℕ) (y : ℕ) (S table : List ℕ)
      (long : j.sites ≤ length table)
      (told : (w : ℕ) → has w s.order ≡ true → get_or parents w 0 ≡ parent s.labels w)
      (marked : Marked s j.sites S table) where
    -- the mark made new is that of the top, where older sites have new marks
    here : (before : List ℕ) (x : ℕ) (T : List ℕ) → Moment s.order x T → has x s.order ≡ true
        → get_or before x 0 ≡ mark (top_of s S x)
        → ((w : ℕ) → has w T ≡ true → get_or before w 0 ≡ mark (top_of s (y ∷ S) w))
        → new_mark parents root y before x ≡ mark (top_of s (y ∷ S) x)
    here before x T at reached old above =
        elim (cases_Bool (has x (y ∷ S))) [
          | inl t ↦
              let test : (eqb x y || eqb (get_or before x 0) 65535) ≡ true = elim (has_cases x y S t) [
                | inl e ↦ or_left (eqb x y) (eqb (get_or before x 0) 65535) (eq-eqb x y e)
                | inr h ↦ or_right (eqb x y) (eqb (get_or before x 0) 65535) (eq-eqb (get_or before x 0) 65535 (old ∙ ap mark (top_struck run S x h)))
              ] in
              cond-true (eqb x y || eqb (get_or before x 0) 65535) 65535 (cond (eqb x root) x (mark_or (get_or before (get_or parents x 0) 0) x)) test ∙ sym (ap mark (top_struck run (y ∷ S) x t))
          | inr f ↦
              let free : has x S ≡ false = lacks_tail x y S f in
              let z = top_some run S x reached free in
              let low : z.0 < j.sites = top_site S x z.0 z.1 in
              let is : get_or before x 0 ≡ z.0 = old ∙ ap mark z.1 in
              let test : (eqb x y || eqb (get_or before x 0) 65535) ≡ false =
              or_from (eqb x y) (eqb (get_or before x 0) 65535) (ne_eqb x y (lacks_head x y S f)) (ne_eqb (get_or before x 0) 65535 (λ e. omega arith)) in
              cond-false (eqb x y || eqb (get_or before x 0) 65535) 65535 (cond (eqb x root) x (mark_or (get_or before (get_or parents x 0) 0) x)) test
              ∙ elim (cases_eq x root) [
                | inl e ↦
                    cond-true (eqb x root) x (mark_or (get_or before (get_or parents x 0) 0) x) (eq-eqb x root e)
                    ∙ e ∙ sym (ap mark (ap (top_of s (y ∷ S)) e ∙ top_root run (y ∷ S) (subst (λ u. has u (y ∷ S) ≡ false) e f)))
                | inr n ↦
                    let p : ℕ = parent s.labels x in
                    let label = run.has_label x reached in
                    let turn : parent s.labels x ≡ label.0.turn = ap (λ o. turn_of o x) label.1 in
                    let earlier : has p T ≡ true = subst (λ u. has u T ≡ true) (sym turn) (run.turn_first x label.0 n label.1 T at) in
                    let known : get_or before (get_or parents x 0) 0 ≡ mark (top_of s (y ∷ S) p) = ap (λ u. get_or before u 0) (told x reached) ∙ above p earlier in
                    cond-false (eqb x root) x (mark_or (get_or before (get_or parents x 0) 0) x) (ne_eqb x root n)
                    ∙ ap (λ m. mark_or m x) known
                    ∙ elim (cases_option (top_of s (y ∷ S) p)) [
                      | inl o ↦ ap (λ q. mark_or (mark q) x) o ∙ sym (ap mark (top_other run (y ∷ S) x reached n f ∙ ap (λ q. later q x) o))
                      | inr o ↦
                          let small : o.0 < j.sites = top_site (y ∷ S) p o.0 o.1 in
                          ap (λ q. mark_or (mark q) x) o.1 ∙ mark_there o.0 x (omega arith) ∙ sym (ap mark (top_other run (y ∷ S) x reached n f ∙ ap (λ q. later q x) o.1))
                    ]
              ]
        ]

    -- the settled sites that were made new have the marks with y struck
    after : (T : List ℕ) → Older s.order T → (w : ℕ) → has w T ≡ true → get_or (renewed parents root y T table) w 0 ≡ mark (top_of s (y ∷ S) w)
    after [] o w h = absurd (both_ways false refl h)
    after (x ∷ T) o w h =
        let at : Moment s.order x T = moment_older o in
        let before : List ℕ = renewed parents root y T table in
        let rest : Older s.order T = older_before at in
        elim (cases_eq w x) [
          | inl e ↦
              let reached : has x s.order ≡ true = older_has o x (has_head x T) in
              let lacks : has x T ≡ false = elim (cases_Bool (has x T)) [ inl t ↦ absurd (moment_once (run.once x) at t) | inr f ↦ f ] in
              let inside : x < length before = omega (arith, run.sites x reached, length_renewed parents root y table T) in
              ap (λ u. get_or (renewed parents root y (x ∷ T) table) u 0) e
              ∙ get_or-set_same before x (new_mark parents root y before x) 0 inside
              ∙ here before x T at reached (still parents root y table T x lacks ∙ marked x (run.sites x reached)) (λ u g. after T rest u g)
              ∙ sym (ap (λ u. mark (top_of s (y ∷ S) u)) e)
          | inr n ↦
              get_or-set_other before x w (new_mark parents root y before x) 0 n
              ∙ after T rest w (elim (has_cases w x T h) [ inl e ↦ absurd (n e) | inr g ↦ g ])
        ]

    -- once the marks of all settled sites are new, the table has the marks with y struck
    pub renewed_marks : Marked s j.sites (y ∷ S) (renewed parents root y s.order table)
    renewed_marks w h =
        elim (cases_Bool (has w s.order)) [
          | inl t ↦ after s.order (older_all s.order) w t
          | inr f ↦ still parents root y table s.order w f ∙ marked w h ∙ ap mark (ap (top S) (up_none run w f) ∙ sym (ap (top (y ∷ S)) (up_none run w f)))
        ]
