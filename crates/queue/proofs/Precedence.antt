-- Which entry comes before which: a total order.
use Rattle.std.proofs.Common.{◌≡◌, ◌≤◌, true, false, not, ◌&&◌, ltb, ◌⊎◌, sym, ◌∙◌, subst, inl, inr, arith}
use Rattle.std.proofs.lemmas.Bool.{or_parts, or_from, or_cases, and_cases, and_left, and_right, and_parts, not-true, not-false, not_from_true, le-ltb, ltb-false, ltb-true}
use Rattle.costs.specs.Costs.{Ops, Laws, Lt}
use Rattle.costs.proofs.Order.{lt_le, lt_trans, le_same, lt_or_le}
use Rattle.queue.specs.Entries.{before}
use Rattle.queue.specs.declared.entries.Entry.{Entry}

module _ {C : Type 0} {k : Ops C} (laws : Laws k) where
  -- an entry that another does not come before costs less, or the same with a site that is not higher
  pub at_most_cases : (x y : Entry C) → before k y x ≡ false → Lt k x.cost y.cost ⊎ ((x.cost ≡ y.cost) × (x.site ≤ y.site))
  at_most_cases x y h =
      let parts = or_parts (k.less y.cost x.cost) (not (k.less x.cost y.cost) && ltb y.site x.site) h in
      elim (and_cases (not (k.less x.cost y.cost)) (ltb y.site x.site) parts.1) [
        | inl e ↦ inl (not-false (k.less x.cost y.cost) e)
        | inr e ↦ elim (lt_or_le laws x.cost y.cost) [
          | inl l ↦ inl l
          | inr m ↦ inr (laws.less_else x.cost y.cost m parts.0, ltb-false y.site x.site e)
        ]
      ]

  -- an entry of less cost has none of more cost before it
  pub at_most_less : (x y : Entry C) → Lt k x.cost y.cost → before k y x ≡ false
  at_most_less x y l =
      or_from (k.less y.cost x.cost) (not (k.less x.cost y.cost) && ltb y.site x.site)
      (lt_le laws l) (and_left (not (k.less x.cost y.cost)) (ltb y.site x.site) (not_from_true (k.less x.cost y.cost) l))

  -- of entries of one cost, one of a higher site is not before one of a lower
  pub at_most_site : (x y : Entry C) → x.cost ≡ y.cost → x.site ≤ y.site → before k y x ≡ false
  at_most_site x y e le =
      or_from (k.less y.cost x.cost) (not (k.less x.cost y.cost) && ltb y.site x.site)
      (le_same laws e) (and_right (not (k.less x.cost y.cost)) (ltb y.site x.site) (le-ltb y.site x.site le))

  -- entries that are not before one another, in a row
  pub at_most_trans : (x y z : Entry C) → before k y x ≡ false → before k z y ≡ false → before k z x ≡ false
  at_most_trans x y z h g =
      elim (at_most_cases x y h) [
        | inl l ↦ elim (at_most_cases y z g) [
          | inl m ↦ at_most_less x z (lt_trans laws l m)
          | inr s ↦ at_most_less x z (subst (λ c. k.less x.cost c ≡ true) s.0 l)
        ]
        | inr t ↦ elim (at_most_cases y z g) [
          | inl m ↦ at_most_less x z (subst (λ c. k.less c z.cost ≡ true) (sym t.0) m)
          | inr s ↦ at_most_site x z (t.0 ∙ s.0) (omega (arith, t.1, s.1))
        ]
      ]

  -- of two entries one at most comes before the other
  pub before_once : (x y : Entry C) → before k x y ≡ true → before k y x ≡ false
  before_once x y h =
      elim (or_cases (k.less x.cost y.cost) (not (k.less y.cost x.cost) && ltb x.site y.site) h) [
        | inl l ↦ at_most_less x y l
        | inr b ↦
            let parts = and_parts (not (k.less y.cost x.cost)) (ltb x.site y.site) b in
            let low : x.site ≤ y.site = omega (arith, ltb-true x.site y.site parts.1) in
            elim (lt_or_le laws x.cost y.cost) [
              | inl l ↦ at_most_less x y l
              | inr m ↦ at_most_site x y (laws.less_else x.cost y.cost m (not-true (k.less y.cost x.cost) parts.0)) low
            ]
      ]

  -- no entry comes before itself
  pub before_self : (x : Entry C) → before k x x ≡ false
  before_self x = at_most_site x x (let e : x.cost ≡ x.cost = cc in e) (omega arith)
