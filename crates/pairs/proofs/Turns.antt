-- The turns of a site: the marks of a target, one turn after the other.
use Rattle.std.proofs.Common.{◌≡◌, ℕ, ◌<◌, Bool, true, false, cond, ◌||◌, eqb, ltb, List, [], ◌∷◌, ◌++◌, Option, sym, refl, ap, ◌∙◌, subst, inl, inr}
use Rattle.std.proofs.lemmas.Bool.{eq-eqb, ne_eqb, lt-ltb, both_ways, cond-true, cond-false, or_left}
use Rattle.costs.specs.Costs.{Ops}
use Rattle.marks.specs.Sets.{with}
use Rattle.least_pairs.specs.Runs.{Label, Job, State, has}
use Rattle.least_pairs.specs.Trees.{parent}
use Rattle.least_pairs.specs.Plans.{marks}
use Rattle.least_pairs.specs.Laws.{Moment, RunLaws}
use Rattle.least_pairs.proofs.Listed.{has_head, has_tail, has_cases, lacks_tail, lacks_head, moment_of}
use Rattle.least_pairs.proofs.Tree.{parent_earlier, moment_lacks, moment_new}

module _ {C : Type 0} (labels : ℕ → Option (Label C)) (root : ℕ) where
  -- a front of the order without a site does not matter to its marks
  marks_skip : (xs ys : List ℕ) (w : ℕ) → has w xs ≡ false → marks labels root (xs ++ ys) w ≡ marks labels root ys w
  marks_skip [] ys w h = refl
  marks_skip (x ∷ xs) ys w h =
      cond-false (eqb w x) (cond (eqb x root) [] (x ∷ marks labels root (xs ++ ys) (parent labels x))) (marks labels root (xs ++ ys) w) (ne_eqb w x (lacks_head w x xs h))
      ∙ marks_skip xs ys w (lacks_tail w x xs h)

  -- what is marked is in the order
  pub marks_has : (x : ℕ) (ys : List ℕ) (w : ℕ) → has x (marks labels root ys w) ≡ true → has x ys ≡ true
  marks_has x [] w h = absurd (both_ways false refl h)
  marks_has x (y ∷ ys) w h =
      (elim (eqb w y) as (λ b. has x (cond b (cond (eqb y root) [] (y ∷ marks labels root ys (parent labels y))) (marks labels root ys w)) ≡ true → has x (y ∷ ys) ≡ true) [
        | true ↦
            elim (eqb y root) as (λ d. has x (cond d [] (y ∷ marks labels root ys (parent labels y))) ≡ true → has x (y ∷ ys) ≡ true) [
              | true ↦ λ g. absurd (both_ways false refl g)
              | false ↦ λ g.
                  elim (has_cases x y (marks labels root ys (parent labels y)) g) [
                    | inl e ↦ or_left (eqb x y) (has x ys) (eq-eqb x y e)
                    | inr t ↦ has_tail x y ys (marks_has x ys (parent labels y) t)
                  ]
            ]
        | false ↦ λ g. has_tail x y ys (marks_has x ys w g)
      ]) h

module _ {C : Type 0} {k : Ops C} {j : Job C} {root : ℕ} {s : State C} (run : RunLaws k j root s) where
  -- the marks of a site are those in the order up to it
  marks_moment : (y : ℕ) (S : List ℕ) → Moment s.order y S → (x : ℕ) → has x (y ∷ S) ≡ true → marks s.labels root s.order x ≡ marks s.labels root (y ∷ S) x
  marks_moment y S m x h = ap (λ o. marks s.labels root o x) m.whole ∙ marks_skip s.labels root m.later (y ∷ S) x (moment_lacks run y S m x h)

  -- the root has no marks
  pub marks_root : marks s.labels root s.order root ≡ []
  marks_root =
      marks_moment root [] run.root_first root (has_head root [])
      ∙ cond-true (eqb root root) (cond (eqb root root) [] (root ∷ [])) [] (eq-eqb root root refl)
      ∙ cond-true (eqb root root) [] (root ∷ []) (eq-eqb root root refl)

  -- another site is marked, and then its turn's marks
  pub marks_other : (w : ℕ) → has w s.order ≡ true → (w ≡ root → ⊥) → marks s.labels root s.order w ≡ w ∷ marks s.labels root s.order (parent s.labels w)
  marks_other w h n =
      let t = moment_of w s.order h in
      let S = t.0 in
      let m = t.1 in
      let p = parent s.labels w in
      let early : has p S ≡ true = parent_earlier run w n S m in
      let differs : p ≡ w → ⊥ = λ e. both_ways (has w S) (moment_new run w S m) (subst (λ z. has z S ≡ true) e early) in
      let rest = marks s.labels root S p in
      let tail : marks s.labels root s.order p ≡ rest =
      marks_moment w S m p (has_tail p w S early)
      ∙ cond-false (eqb p w) (cond (eqb w root) [] (w ∷ rest)) rest (ne_eqb p w differs) in
      marks_moment w S m w (has_head w S)
      ∙ cond-true (eqb w w) (cond (eqb w root) [] (w ∷ rest)) (marks s.labels root S w) (eq-eqb w w refl)
      ∙ cond-false (eqb w root) [] (w ∷ rest) (ne_eqb w root n)
      ∙ ap (λ us. w ∷ us) (sym tail)

-- the marks set so far and those of a site are together the marks of a target
abbrev pub Marking : {C : Type 0} → State C → ℕ → ℕ → (ℕ → Bool) → ℕ → Type 0
Marking s root target set site = (x : ℕ) → (set x || has x (marks s.labels root s.order site)) ≡ has x (marks s.labels root s.order target)

-- a mark within the room is one more in the set
pub within_room : (rooms site : ℕ) (set after : ℕ → Bool) → site < rooms → ((x : ℕ) → after x ≡ cond (ltb site rooms) (with site set x) (set x)) → (x : ℕ) → after x ≡ with site set x
within_room rooms site set after low is x = is x ∙ cond-true (ltb site rooms) (with site set x) (set x) (lt-ltb site rooms low)

-- one more in a set, and one fewer to come
moved : (a b h : Bool) → (cond b true a || h) ≡ (a || (b || h))
moved true true h = refl
moved true false h = refl
moved false true h = refl
moved false false h = refl

-- a set and nothing more
alone : (a : Bool) → (a || false) ≡ a
alone true = refl
alone false = refl

-- no mark is set yet
pub marking_none : {C : Type 0} (s : State C) (root target : ℕ) (set : ℕ → Bool) → ((x : ℕ) → set x ≡ false) → Marking s root target set target
marking_none s root target set none x = ap (λ b. b || has x (marks s.labels root s.order target)) (none x)

module _ {C : Type 0} {k : Ops C} {j : Job C} {root : ℕ} {s : State C} (run : RunLaws k j root s) where
  -- one more is set
  pub marking_more : (target : ℕ) (set after : ℕ → Bool) (site : ℕ) → has site s.order ≡ true → (site ≡ root → ⊥) → ((x : ℕ) → after x ≡ with site set x) → Marking s root target set site → Marking s root target after (parent s.labels site)
  marking_more target set after site h n is m x =
      let rest = marks s.labels root s.order (parent s.labels site) in
      ap (λ b. b || has x rest) (is x)
      ∙ moved (set x) (eqb x site) (has x rest)
      ∙ ap (λ ms. set x || has x ms) (sym (marks_other run site h n))
      ∙ m x

  -- all are set
  pub marking_done : (target : ℕ) (set : ℕ → Bool) → Marking s root target set root → (x : ℕ) → set x ≡ has x (marks s.labels root s.order target)
  marking_done target set m x = sym (alone (set x)) ∙ ap (λ ms. set x || has x ms) (sym (marks_root run)) ∙ m x
