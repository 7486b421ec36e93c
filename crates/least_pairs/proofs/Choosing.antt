-- The site that is settled next: the least of those with a label that are not settled, of equals the lower number.
use Rattle.std.proofs.Common.{◌≡◌, ℕ, zero, suc, ◌<◌, ◌≤◌, Bool, true, false, cond, Some, None, Option, refl, subst, inl, inr, arith}
use Rattle.costs.specs.Costs.{Ops, Laws, Le}
use Rattle.costs.proofs.Order.{lt_le, lt_le_trans, lt_self, le_same}
use Rattle.least_pairs.proofs.Options.{some_none, some_same}
use Rattle.least_pairs.proofs.Moments.{below_cases}
use Rattle.least_pairs.specs.Runs.{Label, State, has, better, least}

-- of the sites below a number that are not settled, y is the least, and its label costs c
pub record Next {C : Type 0} (k : Ops C) (s : State C) (n y : ℕ) (c : C) : Type 0 where
  pub below : y < n
  pub unsettled : has y s.order ≡ false
  pub label : Label C
  pub labelled : s.labels y ≡ Some label
  pub costs : label.cost ≡ c
  pub least : (z : ℕ) → z < n → has z s.order ≡ false → (l : Label C) → s.labels z ≡ Some l → Le k c l.cost × (c ≡ l.cost → y ≤ z)

-- no site below a number is left to settle
abbrev pub Spent : {C : Type 0} → State C → ℕ → Type 0
Spent {C} s n = (z : ℕ) → z < n → has z s.order ≡ false → (l : Label C) → s.labels z ≡ Some l → ⊥

-- what a choice says
abbrev pub Choice : {C : Type 0} → Ops C → State C → ℕ → Option (ℕ × C) → Type 0
Choice k s n None = Spent s n
Choice k s n (Some b) = Next k s n b.0 b.1

module _ {C : Type 0} {k : Ops C} (laws : Laws k) (s : State C) where
  -- a choice stands for one site more, where that site is not chosen
  wider : (n : ℕ) (o : Option (ℕ × C)) → ((l : Label C) → has n s.order ≡ false → s.labels n ≡ Some l → ⊥) → Choice k s n o → Choice k s (suc n) o
  wider n None out h = grind (arith, below_cases)
  wider n (Some b) out h = record {
    below = omega (arith, h.below);
    unsettled = h.unsettled;
    label = h.label;
    labelled = h.labelled;
    costs = h.costs;
    least = λ z below left l is.
        elim (below_cases z n below) [
          | inl g ↦ h.least z g left l is
          | inr q ↦ absurd (out l (subst (λ x. has x s.order ≡ false) q left) (subst (λ x. s.labels x ≡ Some l) q is))
        ];
  }

  -- the better of a site and of a choice is a choice
  better_is : (n : ℕ) (l : Label C) → has n s.order ≡ false → s.labels n ≡ Some l → (b : ℕ × C) → Next k s n b.0 b.1 → (t : Bool) → k.less l.cost b.1 ≡ t → Choice k s (suc n) (cond t (Some (n, l.cost)) (Some b))
  better_is n l left is b h true less = record {
    below = omega arith;
    unsettled = left;
    label = l;
    labelled = is;
    costs = refl;
    least = λ z below open_z m m_is.
        grind (arith, below_cases, lt_le_trans laws, lt_le laws, lt_self laws, some_same, le_same laws, h.least);
  }
  better_is n l left is b h false less = record {
    below = omega (arith, h.below);
    unsettled = h.unsettled;
    label = h.label;
    labelled = h.labelled;
    costs = h.costs;
    least = λ z below open_z m m_is.
        grind (arith, below_cases, some_same, h.least);
  }

  -- one site more that is not settled
  one_more : (n : ℕ) → has n s.order ≡ false → (o : Option (Label C)) → s.labels n ≡ o → (b : Option (ℕ × C)) → Choice k s n b → Choice k s (suc n) (better k n o b)
  one_more n left None is b h = wider n b (λ l _ some. some_none some is) h
  one_more n left (Some l) is None h = record {
    below = omega arith;
    unsettled = left;
    label = l;
    labelled = is;
    costs = refl;
    least = λ z below open_z m m_is.
        grind (arith, below_cases, some_same, le_same laws);
  }
  one_more n left (Some l) is (Some b) h = better_is n l left is b h (k.less l.cost b.1) refl

  -- what the choice among the sites below a number gives
  pub chooses : (n : ℕ) → Choice k s n (least k s n)
  chooses zero = λ z below. absurd (omega arith)
  chooses (suc n) = grind (arith, least, wider, one_more, chooses n)
