-- Totals of a lawful cost kind over lists.
use Rattle.std.proofs.Common.{◌≡◌, ℕ, ◌*◌, ◌≤◌, Bool, true, false, cond, not, List, [], ◌∷◌, ◌++◌, map, length, filter, sym, refl, ap, ◌∙◌, arith}
use Rattle.std.specs.List.{AllByRecursion as All}
use Rattle.costs.specs.Costs.{Ops, Laws, Le, total}
use Rattle.costs.proofs.Group.{plus_zero, plus_swap}
use Rattle.costs.proofs.Order.{le_refl, plus_le, plus_least}
use Rattle.costs.proofs.Quoted.{group, quoting}

-- what holds of every value holds of each in a list
pub all_from : {A : Type 0} {P : A → Type 0} → ((a : A) → P a) → (xs : List A) → All P xs
all_from h [] = tt
all_from h (x ∷ xs) = (h x, all_from h xs)

module _ {C A : Type 0} {k : Ops C} (laws : Laws k) where
  -- the total over one
  pub total_one : (f : A → C) (x : A) → total k f (x ∷ []) ≡ f x
  total_one f x = plus_zero laws (f x)

  -- the total over two lists in a row
  pub total_append : (f : A → C) (xs ys : List A) → total k f (xs ++ ys) ≡ k.plus (total k f xs) (total k f ys)
  total_append f [] ys = sym (laws.zero_plus (total k f ys))
  total_append f (x ∷ xs) ys = ap (k.plus (f x)) (total_append f xs ys) ∙ sym (laws.assoc (f x) (total k f xs) (total k f ys))

  -- one more at the end
  pub total_push : (f : A → C) (xs : List A) (x : A) → total k f (xs ++ (x ∷ [])) ≡ k.plus (total k f xs) (f x)
  total_push f xs x = total_append f xs (x ∷ []) ∙ ap (k.plus (total k f xs)) (total_one f x)

  -- one taken out of the middle
  pub total_middle : (f : A → C) (xs : List A) (x : A) (ys : List A) → total k f (xs ++ (x ∷ ys)) ≡ k.plus (f x) (total k f (xs ++ ys))
  total_middle f [] x ys = refl
  total_middle f (w ∷ xs) x ys =
      ap (k.plus (f w)) (total_middle f xs x ys)
      ∙ group laws (f w ∷ f x ∷ total k f (xs ++ ys) ∷ []) (search quoting depth 12) tt

  -- values that are equal have equal totals
  pub total_same : (f g : A → C) (xs : List A) → All (λ a. f a ≡ g a) xs → total k f xs ≡ total k g xs
  total_same f g [] h = refl
  total_same f g (x ∷ xs) h = ap (λ s. k.plus s (total k f xs)) h.0 ∙ ap (k.plus (g x)) (total_same f g xs h.1)

  -- the total of zeros
  pub total_zero : (xs : List A) → total k (λ _. k.zero) xs ≡ k.zero
  total_zero [] = refl
  total_zero (x ∷ xs) = laws.zero_plus (total k (λ _. k.zero) xs) ∙ total_zero xs

  -- the total of sums
  pub total_plus : (f g : A → C) (xs : List A) → total k (λ a. k.plus (f a) (g a)) xs ≡ k.plus (total k f xs) (total k g xs)
  total_plus f g [] = sym (laws.zero_plus k.zero)
  total_plus f g (x ∷ xs) = ap (k.plus (k.plus (f x) (g x))) (total_plus f g xs) ∙ plus_swap laws (f x) (g x) (total k f xs) (total k g xs)

  -- the total of negations
  pub total_negation : (f : A → C) (xs : List A) → total k (λ a. k.negation (f a)) xs ≡ k.negation (total k f xs)
  total_negation f [] = group laws [] (search quoting depth 12) tt
  total_negation f (x ∷ xs) =
      ap (k.plus (k.negation (f x))) (total_negation f xs)
      ∙ group laws (f x ∷ total k f xs ∷ []) (search quoting depth 12) tt

  -- totals compare where each value does
  pub total_le : (f g : A → C) (xs : List A) → All (λ a. Le k (f a) (g a)) xs → Le k (total k f xs) (total k g xs)
  total_le f g [] h = le_refl laws k.zero
  total_le f g (x ∷ xs) h = plus_le laws h.0 (total_le f g xs h.1)

  -- the total of values at least zero is at least zero
  pub total_least : (f : A → C) (xs : List A) → All (λ a. Le k k.zero (f a)) xs → Le k k.zero (total k f xs)
  total_least f [] h = le_refl laws k.zero
  total_least f (x ∷ xs) h = plus_least laws h.0 (total_least f xs h.1)

  -- a total is that of the values that pass a test and that of the others
  pub total_split : (f : A → C) (test : A → Bool) (xs : List A) → total k f xs ≡ k.plus (total k f (filter test xs)) (total k f (filter (λ a. not (test a)) xs))
  total_split f test [] = sym (laws.zero_plus k.zero)
  total_split f test (x ∷ xs) = ap (k.plus (f x)) (total_split f test xs) ∙ by_test (test x)
    where
      by_test : (b : Bool) → k.plus (f x) (k.plus (total k f (filter test xs)) (total k f (filter (λ a. not (test a)) xs))) ≡ k.plus (total k f (cond b (x ∷ filter test xs) (filter test xs))) (total k f (cond (not b) (x ∷ filter (λ a. not (test a)) xs) (filter (λ a. not (test a)) xs)))
      by_test true = group laws (f x ∷ total k f (filter test xs) ∷ total k f (filter (λ a. not (test a)) xs) ∷ []) (search quoting depth 12) tt
      by_test false = group laws (f x ∷ total k f (filter test xs) ∷ total k f (filter (λ a. not (test a)) xs) ∷ []) (search quoting depth 12) tt

  -- the size of a total of values of limited size
  pub size_total : (f : A → C) (most : ℕ) (xs : List A) → All (λ a. k.size (f a) ≤ most) xs → k.size (total k f xs) ≤ length xs * most
  size_total f most [] h = omega (arith, laws.size_zero)
  size_total f most (x ∷ xs) h = omega (arith, laws.size_plus (f x) (total k f xs), size_total f most xs h.1)

-- the total over a list of images
pub total_map : {C A B : Type 0} (k : Ops C) (f : B → C) (g : A → B) (xs : List A) → total k f (map g xs) ≡ total k (λ a. f (g a)) xs
total_map k f g [] = refl
total_map k f g (x ∷ xs) = ap (k.plus (f (g x))) (total_map k f g xs)
