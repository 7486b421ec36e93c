-- The order of a lawful cost kind.
use Rattle.std.proofs.Common.{◌≡◌, true, false, ◌⊎◌, sym, ap, ◌∙◌, subst, inl, inr}
use Rattle.std.proofs.lemmas.Bool.{both_ways, cases_Bool}
use Rattle.costs.specs.Costs.{Ops, Laws, Le, Lt}
use Rattle.costs.proofs.Group.{plus_undone, negation_plus, plus_zero}

module _ {C : Type 0} {k : Ops C} (laws : Laws k) where
  -- a value is at most itself
  pub le_refl : (x : C) → Le k x x
  le_refl x = laws.less_self x

  -- equal values are at most each other
  pub le_same : {x y : C} → x ≡ y → Le k x y
  le_same {x} e = subst (λ z. k.less z x ≡ false) e (le_refl x)

  -- what is less is at most
  pub lt_le : {x y : C} → Lt k x y → Le k x y
  lt_le {x} {y} h = laws.less_once x y h

  -- at most, both ways, is equal
  pub le_antisym : {x y : C} → Le k x y → Le k y x → x ≡ y
  le_antisym {x} {y} h g = laws.less_else x y g h

  -- at most and more exclude each other
  pub le_not_lt : {x y : C} → Le k x y → Lt k y x → ⊥
  le_not_lt {x} {y} h g = both_ways (k.less y x) h g

  -- less, or at most the other way
  pub lt_or_le : (x y : C) → Lt k x y ⊎ Le k y x
  lt_or_le x y = cases_Bool (k.less x y)

  -- one of two values is at most the other
  pub le_total : (x y : C) → Le k x y ⊎ Le k y x
  le_total x y = elim (lt_or_le x y) [ inl h ↦ inl (lt_le h) | inr h ↦ inr h ]

  -- what is at most is less or equal
  pub le_lt_or_same : {x y : C} → Le k x y → Lt k x y ⊎ (x ≡ y)
  le_lt_or_same {x} {y} h = elim (lt_or_le x y) [ inl g ↦ inl g | inr g ↦ inr (le_antisym h g) ]

  -- what is not less the other way is at most
  pub le_unless : {x y : C} → (Lt k y x → ⊥) → Le k x y
  le_unless {x} {y} h = elim (lt_or_le y x) [ inl g ↦ absurd (h g) | inr g ↦ g ]

  pub lt_trans : {x y z : C} → Lt k x y → Lt k y z → Lt k x z
  lt_trans {x} {y} {z} h g = laws.less_trans x y z h g

  pub lt_le_trans : {x y z : C} → Lt k x y → Le k y z → Lt k x z
  lt_le_trans {x} {y} {z} h g = elim (le_lt_or_same g) [ inl l ↦ lt_trans h l | inr e ↦ subst (λ w. k.less x w ≡ true) e h ]

  pub le_lt_trans : {x y z : C} → Le k x y → Lt k y z → Lt k x z
  le_lt_trans {x} {y} {z} h g = elim (le_lt_or_same h) [ inl l ↦ lt_trans l g | inr e ↦ subst (λ w. k.less w z ≡ true) (sym e) g ]

  pub le_trans : {x y z : C} → Le k x y → Le k y z → Le k x z
  le_trans h g = le_unless (λ l. le_not_lt g (lt_le_trans l h))

  -- nothing is less than itself
  pub lt_self : {x : C} → Lt k x x → ⊥
  lt_self {x} h = le_not_lt (le_refl x) h

  -- a value added on both sides can be left out
  pub lt_cancel : {x y : C} (z : C) → Lt k (k.plus x z) (k.plus y z) → Lt k x y
  lt_cancel {x} {y} z l =
      subst (λ v. k.less v y ≡ true) (plus_undone laws x z)
      (subst (λ v. k.less (k.plus (k.plus x z) (k.negation z)) v ≡ true) (plus_undone laws y z) (laws.plus_less (k.plus x z) (k.plus y z) (k.negation z) l))

  -- adding one value to both sides changes no comparison
  pub less_plus : (x y z : C) → k.less (k.plus x z) (k.plus y z) ≡ k.less x y
  less_plus x y z =
      elim (lt_or_le x y) [
        | inl h ↦ laws.plus_less x y z h ∙ sym h
        | inr h ↦ le_unless (λ l. le_not_lt h (lt_cancel z l)) ∙ sym h
      ]

  pub less_plus_left : (x y z : C) → k.less (k.plus z x) (k.plus z y) ≡ k.less x y
  less_plus_left x y z = ap (λ v. k.less v (k.plus z y)) (laws.comm z x) ∙ ap (k.less (k.plus x z)) (laws.comm z y) ∙ less_plus x y z

  -- values with the same difference compare alike
  pub less_shift : (x y a b : C) → k.plus x b ≡ k.plus a y → k.less x y ≡ k.less a b
  less_shift x y a b e =
      sym (less_plus x y b) ∙ ap (λ v. k.less v (k.plus y b)) e ∙ ap (k.less (k.plus a y)) (laws.comm y b) ∙ less_plus a b y

  -- adding one value keeps at most and less
  pub plus_le_right : {x y : C} (z : C) → Le k x y → Le k (k.plus x z) (k.plus y z)
  plus_le_right {x} {y} z h = less_plus y x z ∙ h

  pub plus_le_left : {x y : C} (z : C) → Le k x y → Le k (k.plus z x) (k.plus z y)
  plus_le_left {x} {y} z h = less_plus_left y x z ∙ h

  pub plus_lt_right : {x y : C} (z : C) → Lt k x y → Lt k (k.plus x z) (k.plus y z)
  plus_lt_right {x} {y} z h = less_plus x y z ∙ h

  pub plus_lt_left : {x y : C} (z : C) → Lt k x y → Lt k (k.plus z x) (k.plus z y)
  plus_lt_left {x} {y} z h = less_plus_left x y z ∙ h

  -- a value added on both sides can be left out
  pub le_cancel : {x y : C} (z : C) → Le k (k.plus x z) (k.plus y z) → Le k x y
  le_cancel {x} {y} z h = sym (less_plus y x z) ∙ h

  pub le_cancel_left : {x y : C} (z : C) → Le k (k.plus z x) (k.plus z y) → Le k x y
  le_cancel_left {x} {y} z h = sym (less_plus_left y x z) ∙ h

  -- sums compare where their parts do
  pub plus_le : {a b c d : C} → Le k a b → Le k c d → Le k (k.plus a c) (k.plus b d)
  plus_le {a} {b} {c} {d} h g = le_trans (plus_le_right c h) (plus_le_left b g)

  pub plus_lt_le : {a b c d : C} → Lt k a b → Le k c d → Lt k (k.plus a c) (k.plus b d)
  plus_lt_le {a} {b} {c} {d} h g = lt_le_trans (plus_lt_right c h) (plus_le_left b g)

  pub plus_le_lt : {a b c d : C} → Le k a b → Lt k c d → Lt k (k.plus a c) (k.plus b d)
  plus_le_lt {a} {b} {c} {d} h g = le_lt_trans (plus_le_right c h) (plus_lt_left b g)

  -- sums of values at least zero are at least zero, and at least either part
  pub plus_least : {x y : C} → Le k k.zero x → Le k k.zero y → Le k k.zero (k.plus x y)
  plus_least {x} {y} h g = le_trans (le_same (sym (laws.zero_plus k.zero))) (plus_le h g)

  pub le_plus_right : {y : C} (x : C) → Le k k.zero y → Le k x (k.plus x y)
  le_plus_right {y} x h = le_trans (le_same (sym (plus_zero laws x))) (plus_le_left x h)

  pub le_plus_left : {y : C} (x : C) → Le k k.zero y → Le k x (k.plus y x)
  le_plus_left {y} x h = le_trans (le_same (sym (laws.zero_plus x))) (plus_le_right x h)

  -- a negation turns the order round
  pub less_negation : (x y : C) → k.less (k.negation x) (k.negation y) ≡ k.less y x
  less_negation x y =
      less_shift (k.negation x) (k.negation y) y x (negation_plus laws x ∙ sym (laws.plus_negation y))

  pub negation_le : {x y : C} → Le k x y → Le k (k.negation y) (k.negation x)
  negation_le {x} {y} h = less_negation x y ∙ h

  pub negation_lt : {x y : C} → Lt k x y → Lt k (k.negation y) (k.negation x)
  negation_lt {x} {y} h = less_negation y x ∙ h

  -- at most, as a difference with zero
  pub le_difference : {x y : C} → Le k x y → Le k k.zero (k.plus y (k.negation x))
  le_difference {x} {y} h =
      less_shift (k.plus y (k.negation x)) k.zero y x
      (laws.assoc y (k.negation x) x ∙ ap (k.plus y) (negation_plus laws x)) ∙ h

  pub difference_le : {x y : C} → Le k k.zero (k.plus y (k.negation x)) → Le k x y
  difference_le {x} {y} h =
      sym (less_shift (k.plus y (k.negation x)) k.zero y x (laws.assoc y (k.negation x) x ∙ ap (k.plus y) (negation_plus laws x))) ∙ h
