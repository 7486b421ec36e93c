-- The sums of a planning fit: distances, reduced costs, labels and totals.
use Rattle.std.proofs.Common.{◌≡◌, ℕ, suc, ◌+◌, ◌*◌, ◌<◌, ◌≤◌, true, false, eqb, List, ◌∷◌, length, Some, sym, ap, ◌∙◌, subst, inl, inr, arith, length-append}
use Rattle.std.proofs.lemmas.Bool.{and_parts, cases_eq}
use Rattle.costs.specs.Costs.{Ops, Laws}
use Rattle.costs.specs.Counting.{occurs}
use Rattle.costs.proofs.Working.{worked_exact, negated_exact}
use Rattle.least_pairs.specs.Views.{View}
use Rattle.least_pairs.specs.Runs.{Label, Job, State, has}
use Rattle.least_pairs.specs.Laws.{Moment, Considered, RunLaws}
use Rattle.least_pairs.specs.Plans.{first_job, second_job, reduced, cost_of}
use Rattle.least_pairs.specs.Sizing.{largest, ExactSum, SumsFit}
use Rattle.least_pairs.proofs.Sight.{SoundView}
use Rattle.least_pairs.proofs.Listed.{hit_most, hit_other, lacks_occurs, lacks_more, occurs_append, occurs_has, moment_of}
use Rattle.least_pairs.proofs.Moments.{few}
use Rattle.least_pairs.proofs.Pieces.{joined_free, joined_sym}
use Rattle.least_pairs.proofs.Sizes.{label_size}
use Rattle.least_pairs.proofs.Second.{Crosses, second_considered}

-- within the largest size twice over a sum is exact
exact : {C : Type 0} {k : Ops C} (laws : Laws k) (x y : C) (a b : ℕ) → k.size x ≤ a → k.size y ≤ b → a + b ≤ largest → ExactSum k x y
exact {k = k} laws x y a b hx hy hab = grind (arith, worked_exact)

-- the sites settled before a moment are fewer than the sites
few_before : {C : Type 0} {k : Ops C} {j : Job C} {root : ℕ} {s : State C} → RunLaws k j root s → (y : ℕ) (S : List ℕ) → Moment s.order y S → length S + 1 ≤ j.sites
few_before {j = j} {s = s} rl y S m =
    let all = few j.sites s.order rl.once (λ w h. rl.sites w (occurs_has w s.order h)) in
    let long : length s.order ≡ length m.later + suc (length S) = ap length m.whole ∙ length-append m.later (y ∷ S) in
    omega arith

module _ {C : Type 0} {k : Ops C} (laws : Laws k) {v : View C} (sight : SoundView k v) (small : (e : ℕ) → v.usable e ≡ true → k.size (v.cost e) ≤ 1000000) (most : v.sites ≤ 256) {root : ℕ} {first second : State C} (fl : RunLaws k (first_job v) root first) (sl : RunLaws k (second_job k v root first) root second) where
  first_usable : (y : ℕ) (S : List ℕ) (e : ℕ) → Considered (first_job v) first.order y S e → v.usable e ≡ true
  first_usable y S e c = (and_parts (v.usable e) (eqb (v.start e) y) c.considers).0

  -- a distance is that of at most 255 links
  distance_size : (w : ℕ) (l : Label C) → first.labels w ≡ Some l → k.size l.cost ≤ 255000000
  distance_size w l e =
      let at = moment_of w first.order (fl.is_settled w l e) in
      let T = at.0 in
      let fits = label_size laws fl 1000000 (λ y S f c. small f (first_usable y S f c)) (length T) w T l (omega arith) at.1 e in
      let short = few_before fl w T at.1 in
      omega arith

  -- so is that of a site without one, which is zero
  cost_size_of : (w : ℕ) → k.size (cost_of k (first.labels w)) ≤ 255000000
  cost_size_of w = grind (arith, distance_size)

  -- a reduced cost is a cost and two distances
  reduced_size : (e : ℕ) → v.usable e ≡ true → k.size (reduced k v first e) ≤ 511000000
  reduced_size e u = grind (arith, cost_size_of)

  -- what y considers crosses its piece
  crosses : (y : ℕ) (S : List ℕ) (e : ℕ) → Considered (second_job k v root first) second.order y S e → Crosses v root first y S e
  crosses y S e c = second_considered k v root first y S e c.considers

  -- not all sites are struck then, since its end is neither y nor struck
  some_left : (y : ℕ) (S : List ℕ) (e : ℕ) → Considered (second_job k v root first) second.order y S e → length S + 2 ≤ 256
  some_left y S e c =
      let a = crosses y S e c in
      let m = c.moment in
      let x = v.end e in
      let lacks : has x (y ∷ S) ≡ false = lacks_more x y S a.other (joined_free fl S x y (joined_sym fl S y x a.end_in)) in
      let part : (w : ℕ) → occurs w (y ∷ S) ≤ occurs w second.order = λ w. omega (arith, ap (occurs w) m.whole, occurs_append w m.later (y ∷ S)) in
      let once : (w : ℕ) → occurs w (x ∷ y ∷ S) ≤ 1 = λ w.
      elim (cases_eq w x) [
        | inl q ↦ omega (arith, hit_most w x, ap (λ z. occurs z (y ∷ S)) q, lacks_occurs x (y ∷ S) lacks)
        | inr n ↦ omega (arith, hit_other w x n, part w, sl.once w)
      ] in
      let inside : (w : ℕ) → 1 ≤ occurs w (x ∷ y ∷ S) → w < v.sites = λ w h.
      elim (cases_eq w x) [
        | inl q ↦ subst (λ z. z < v.sites) (sym q) (sight.end e a.usable)
        | inr n ↦ sl.sites w (occurs_has w second.order (omega (arith, hit_other w x n, part w)))
      ] in
      omega (arith, few v.sites (x ∷ y ∷ S) once inside)

  adds_size : (y : ℕ) (S : List ℕ) (e : ℕ) → Considered (second_job k v root first) second.order y S e → k.size (reduced k v first e) ≤ 511000000
  adds_size y S e c = reduced_size e (crosses y S e c).usable

  -- a label is a sum of reduced costs, one for each site struck before at most
  second_size : (w : ℕ) (T : List ℕ) (l : Label C) → Moment second.order w T → second.labels w ≡ Some l → k.size l.cost ≤ length T * 511000000
  second_size w T l at e = label_size laws sl 511000000 adds_size (length T) w T l (omega arith) at e

  label_fits : (w : ℕ) (l : Label C) → second.labels w ≡ Some l → k.size l.cost ≤ 130305000000
  label_fits w l e =
      let at = moment_of w second.order (sl.is_settled w l e) in
      let T = at.0 in
      let fits = second_size w T l at.1 e in
      let short = few_before sl w T at.1 in
      omega arith

  -- every sum of a planning fits and is exact
  pub sums_fit : SumsFit k v root first second
  sums_fit = record {
    offered_distance = λ y S e l c h. exact laws l.cost (v.cost e) 255000000 1000000 (distance_size y l h) (small e (first_usable y S e c)) (omega arith);
    start_side = λ e u. exact laws (v.cost e) (cost_of k (first.labels (v.start e))) 1000000 255000000 (small e u) (cost_size_of (v.start e)) (omega arith);
    end_side = λ e. negated_exact k (cost_of k (first.labels (v.end e))) (omega (arith, cost_size_of (v.end e)));
    reduced_cost = λ e u.
        grind (arith, exact laws, cost_size_of, laws.size_plus, laws.size_negation);
    offered_label = λ y S e l c h.
        let left = some_left y S e c in
        exact laws l.cost (reduced k v first e) 129794000000 511000000 (omega (arith, second_size y S l c.moment h)) (adds_size y S e c) (omega arith);
    twice_distance = λ w d h. exact laws d.cost d.cost 255000000 255000000 (distance_size w d h) (distance_size w d h) (omega arith);
    total = λ w d l h g. exact laws l.cost (k.plus d.cost d.cost) 130305000000 510000000 (label_fits w l g) (omega (arith, distance_size w d h, laws.size_plus d.cost d.cost)) (omega arith);
  }
