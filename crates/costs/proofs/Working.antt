-- Sums and negations worked out within the limit.
use Rattle.std.proofs.Common.{◌≡◌, ◌+◌, ◌<◌, ◌≤◌, leb, arith}
use Rattle.std.proofs.lemmas.Bool.{le-leb, lt-leb, leb-true, cond-true, cond-false, cond_both}
use Rattle.costs.specs.Costs.{Ops, Laws, limit, worked, negated}

module _ {C : Type 0} (k : Ops C) where
  -- within the limit the sum worked out is the sum
  pub worked_exact : (x y : C) → k.size x + k.size y ≤ limit → worked k x y ≡ k.plus x y
  worked_exact x y h = cond-true (leb (k.size x + k.size y) limit) (k.plus x y) k.zero (le-leb (k.size x + k.size y) limit h)

  -- past the limit it is zero
  pub worked_past : (x y : C) → limit < k.size x + k.size y → worked k x y ≡ k.zero
  worked_past x y h = cond-false (leb (k.size x + k.size y) limit) (k.plus x y) k.zero (lt-leb (k.size x + k.size y) limit h)

  -- within the limit the negation worked out is the negation
  pub negated_exact : (x : C) → k.size x ≤ limit → negated k x ≡ k.negation x
  negated_exact x h = cond-true (leb (k.size x) limit) (k.negation x) k.zero (le-leb (k.size x) limit h)

  -- past the limit it is zero
  pub negated_past : (x : C) → limit < k.size x → negated k x ≡ k.zero
  negated_past x h = cond-false (leb (k.size x) limit) (k.negation x) k.zero (lt-leb (k.size x) limit h)

module _ {C : Type 0} {k : Ops C} (laws : Laws k) where
  -- a sum worked out is within the limit
  pub worked_small : (x y : C) → k.size (worked k x y) ≤ limit
  worked_small x y =
      cond_both (leb (k.size x + k.size y) limit) (k.plus x y) k.zero (λ z. k.size z ≤ limit)
      (λ h. omega (arith, laws.size_plus x y, leb-true (k.size x + k.size y) limit h))
      (λ h. omega (arith, laws.size_zero))

  -- a sum worked out is no larger than its parts together
  pub worked_size : (x y : C) → k.size (worked k x y) ≤ k.size x + k.size y
  worked_size x y =
      cond_both (leb (k.size x + k.size y) limit) (k.plus x y) k.zero (λ z. k.size z ≤ k.size x + k.size y)
      (λ h. laws.size_plus x y)
      (λ h. omega (arith, laws.size_zero))

  -- a negation worked out is within the limit, and no larger than the value
  pub negated_small : (x : C) → k.size (negated k x) ≤ limit
  negated_small x =
      cond_both (leb (k.size x) limit) (k.negation x) k.zero (λ z. k.size z ≤ limit)
      (λ h. omega (arith, laws.size_negation x, leb-true (k.size x) limit h))
      (λ h. omega (arith, laws.size_zero))

  pub negated_size : (x : C) → k.size (negated k x) ≤ k.size x
  negated_size x =
      cond_both (leb (k.size x) limit) (k.negation x) k.zero (λ z. k.size z ≤ k.size x)
      (λ h. omega (arith, laws.size_negation x))
      (λ h. omega (arith, laws.size_zero))
