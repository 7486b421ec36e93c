-- Sizes: what the runs offer stays far below the limit of exact sums.
use Rattle.std.proofs.Common.{◌≡◌, ℕ, zero, suc, ◌+◌, ◌*◌, ◌≤◌, true, List, ◌∷◌, length, Some, sym, ap, ◌∙◌, subst, ⊎_elim, mul-le-mul_right, add-mul, one-mul, arith, length-append}
use Rattle.std.proofs.lemmas.Bool.{cases_eq}
use Rattle.costs.specs.Costs.{Ops, Laws}
use Rattle.least_pairs.specs.Runs.{Label, Job, State, has}
use Rattle.least_pairs.specs.Laws.{Moment, Considered, RunLaws}
use Rattle.least_pairs.proofs.Options.{some_same}
use Rattle.least_pairs.proofs.Listed.{moment_of}
use Rattle.least_pairs.proofs.Older.{older_before, older_outward}

module _ {C : Type 0} {k : Ops C} (laws : Laws k) {j : Job C} {root : ℕ} {s : State C} (rl : RunLaws k j root s) where
  -- who was settled before a moment has a moment of its own, with fewer settled before
  earlier_moment : (w x : ℕ) (T : List ℕ) → Moment s.order w T → has x T ≡ true → (R : List ℕ) × Moment s.order x R × (length R + 1 ≤ length T)
  earlier_moment w x T m h =
      let p = moment_of x T h in
      (p.0, older_outward (older_before m) p.1, omega (arith, ap length p.1.whole, length-append p.1.later (x ∷ p.0)))

  -- a label's size, by the sizes of the labels before
  one_label : (most : ℕ) → ((y : ℕ) (S : List ℕ) (e : ℕ) → Considered j s.order y S e → k.size (j.adds e) ≤ most) → (w : ℕ) (T : List ℕ) (m : Label C) → Moment s.order w T → s.labels w ≡ Some m → ((x : ℕ) (R : List ℕ) (l : Label C) → length R + 1 ≤ length T → Moment s.order x R → s.labels x ≡ Some l → k.size l.cost ≤ length R * most) → k.size m.cost ≤ length T * most
  one_label most each w T m at label below =
      ⊎_elim
      (λ same.
      grind (arith, some_same))
      (λ other.
      let r = rl.reason w m other label in
      let l = r.1 in
      let add = j.adds m.link in
      let e = earlier_moment w m.turn T at (rl.turn_first w m other label T at) in
      let R = e.0 in
      let ih = below m.turn R l e.2 e.1 r.4 in
      let step : k.size add ≤ most = each m.turn r.0 m.link r.2 in
      let sum : k.size m.cost ≤ k.size l.cost + k.size add = subst (λ c. k.size c ≤ k.size l.cost + k.size add) (sym r.5) (laws.size_plus l.cost add) in
      let more : (length R + 1) * most ≤ length T * most = mul-le-mul_right most e.2 in
      let split : (length R + 1) * most ≡ length R * most + most = add-mul (length R) 1 most ∙ ap (λ x. length R * most + x) (one-mul most) in
      omega arith)
      (cases_eq w root)

  -- a label's size grows with each site settled before
  pub label_size : (most : ℕ) → ((y : ℕ) (S : List ℕ) (e : ℕ) → Considered j s.order y S e → k.size (j.adds e) ≤ most) → (fuel : ℕ) (w : ℕ) (T : List ℕ) (m : Label C) → length T ≤ fuel → Moment s.order w T → s.labels w ≡ Some m → k.size m.cost ≤ length T * most
  label_size most each zero w T m short at label = one_label most each w T m at label (λ x R l shorter a b. absurd (omega arith))
  label_size most each (suc fuel) w T m short at label =
      one_label most each w T m at label (λ x R l shorter a b.
      let less : length R ≤ fuel = omega arith in
      label_size most each fuel x R l less a b)
