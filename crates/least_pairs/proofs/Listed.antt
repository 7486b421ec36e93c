-- Membership and counting in lists of numbers.
use Rattle.std.proofs.Common.{◌≡◌, ℕ, ◌+◌, ◌≤◌, true, false, cond, eqb, ◌⊎◌, List, [], ◌∷◌, ◌++◌, sym, refl, ap, inl, inr, arith}
use Rattle.std.proofs.lemmas.Bool.{or_left, or_right, or_cases, or_parts, or_from, eq-eqb, ne_eqb, eqb-true, both_ways, false_from_ne_true, true_from_ne_false}
use Rattle.costs.specs.Counting.{hit, occurs}
use Rattle.least_pairs.specs.Runs.{has}
use Rattle.least_pairs.specs.Laws.{Moment}

-- the first of a list is in it
pub has_head : (w : ℕ) (ys : List ℕ) → has w (w ∷ ys) ≡ true
has_head w ys = or_left (eqb w w) (has w ys) (eq-eqb w w refl)

-- what is in a list is in it with one more
pub has_tail : (w y : ℕ) (ys : List ℕ) → has w ys ≡ true → has w (y ∷ ys) ≡ true
has_tail w y ys h = or_right (eqb w y) (has w ys) h

-- what is in a list is its first or among the others
pub has_cases : (w y : ℕ) (ys : List ℕ) → has w (y ∷ ys) ≡ true → (w ≡ y) ⊎ (has w ys ≡ true)
has_cases w y ys h = elim (or_cases (eqb w y) (has w ys) h) [ inl e ↦ inl (eqb-true w y e) | inr t ↦ inr t ]

-- what differs from the first and is not among the others is not in a list
pub lacks_more : (w y : ℕ) (ys : List ℕ) → (w ≡ y → ⊥) → has w ys ≡ false → has w (y ∷ ys) ≡ false
lacks_more w y ys n h = or_from (eqb w y) (has w ys) (ne_eqb w y n) h

-- what is not in a list is not among the others
pub lacks_tail : (w y : ℕ) (ys : List ℕ) → has w (y ∷ ys) ≡ false → has w ys ≡ false
lacks_tail w y ys h = (or_parts (eqb w y) (has w ys) h).1

-- what is not in a list differs from its first
pub lacks_head : (w y : ℕ) (ys : List ℕ) → has w (y ∷ ys) ≡ false → w ≡ y → ⊥
lacks_head w y ys h e = both_ways (eqb w y) (or_parts (eqb w y) (has w ys) h).0 (eq-eqb w y e)

-- what is in a list occurs in it
pub has_occurs : (w : ℕ) (xs : List ℕ) → has w xs ≡ true → 1 ≤ occurs w xs
has_occurs w [] h = absurd (both_ways false refl h)
has_occurs w (x ∷ xs) h =
    elim (or_cases (eqb w x) (has w xs) h) [
      | inl e ↦ let one : hit w x ≡ 1 = ap (λ b. cond b 1 0) e in omega arith
      | inr t ↦ omega (arith, has_occurs w xs t)
    ]

-- what is not in a list does not occur in it
pub lacks_occurs : (w : ℕ) (xs : List ℕ) → has w xs ≡ false → occurs w xs ≡ 0
lacks_occurs w [] h = refl
lacks_occurs w (x ∷ xs) h = grind (arith, or_parts, lacks_occurs w xs (or_parts (eqb w x) (has w xs) h).1)

-- what occurs in a list is in it
pub occurs_has : (w : ℕ) (xs : List ℕ) → 1 ≤ occurs w xs → has w xs ≡ true
occurs_has w xs h = true_from_ne_false (has w xs) (λ f. omega (arith, lacks_occurs w xs f))

-- what does not occur in a list is not in it
pub occurs_lacks : (w : ℕ) (xs : List ℕ) → occurs w xs ≡ 0 → has w xs ≡ false
occurs_lacks w xs h = false_from_ne_true (has w xs) (λ t. omega (arith, has_occurs w xs t))

-- a number occurs in two lists in a row as often as in both
pub occurs_append : (w : ℕ) (xs ys : List ℕ) → occurs w (xs ++ ys) ≡ occurs w xs + occurs w ys
occurs_append w [] ys = omega arith
occurs_append w (x ∷ xs) ys = omega (arith, occurs_append w xs ys)

-- a number counts at most once for another
pub hit_most : (w x : ℕ) → hit w x ≤ 1
hit_most w x = elim (eqb w x) as (λ b. cond b 1 0 ≤ 1) [ true ↦ omega arith | false ↦ omega arith ]

-- a number counts for no other
pub hit_other : (w x : ℕ) → (w ≡ x → ⊥) → hit w x ≡ 0
hit_other w x n = ap (λ b. cond b 1 0) (ne_eqb w x n)

-- a number occurs at most once in a list of one
pub occurs_one : (w x : ℕ) → occurs w (x ∷ []) ≤ 1
occurs_one w x = omega (arith, hit_most w x)

-- what is in the second of two lists in a row is in them
pub has_right : (w : ℕ) (xs ys : List ℕ) → has w ys ≡ true → has w (xs ++ ys) ≡ true
has_right w xs ys h = occurs_has w (xs ++ ys) (omega (arith, occurs_append w xs ys, has_occurs w ys h))

-- what is in the first of two lists in a row is in them
pub has_left : (w : ℕ) (xs ys : List ℕ) → has w xs ≡ true → has w (xs ++ ys) ≡ true
has_left w xs ys h = occurs_has w (xs ++ ys) (omega (arith, occurs_append w xs ys, has_occurs w xs h))

-- what is in two lists in a row is in one of them
pub has_append : (w : ℕ) (xs ys : List ℕ) → has w (xs ++ ys) ≡ true → (has w xs ≡ true) ⊎ (has w ys ≡ true)
has_append w xs ys h = grind (arith, occurs_has, occurs_append, lacks_occurs, has_occurs)

-- a list is taken apart at what is in it
pub has_parts : (w : ℕ) (xs : List ℕ) → has w xs ≡ true → (front : List ℕ) × (back : List ℕ) × (xs ≡ front ++ w ∷ back)
has_parts w [] h = absurd (both_ways false refl h)
has_parts w (x ∷ xs) h =
    elim (has_cases w x xs h) [
      | inl e ↦ ([], xs, ap (λ z. z ∷ xs) (sym e))
      | inr t ↦ let p = has_parts w xs t in (x ∷ p.0, p.1, ap (λ zs. x ∷ zs) p.2)
    ]

-- who is in an order was settled at some moment
pub moment_of : (w : ℕ) (xs : List ℕ) → has w xs ≡ true → (S : List ℕ) × Moment xs w S
moment_of w xs h = let p = has_parts w xs h in (p.1, record { later = p.0; whole = p.2 })
