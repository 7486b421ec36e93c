-- Totals of a lawful cost kind over lists of numbers that hold each number as often, or at most as often.
use Rattle.std.proofs.Common.{◌≡◌, ℕ, ◌+◌, ◌≤◌, true, false, cond, eqb, List, [], ◌∷◌, sym, refl, ap, ◌∙◌, arith}
use Rattle.std.specs.List.{AllByRecursion as All}
use Rattle.std.proofs.lemmas.Bool.{eqb-true, eq-eqb}
use Rattle.costs.specs.Costs.{Ops, Laws, Le, total}
use Rattle.costs.specs.Counting.{hit, occurs}
use Rattle.costs.proofs.Group.{plus_zero}
use Rattle.costs.proofs.Order.{le_same, le_trans, le_plus_right}
use Rattle.costs.proofs.Quoted.{group, quoting}
use Rattle.costs.proofs.Totals.{total_least}

-- a list with the first of a number left out
abbrev pub without : ℕ → List ℕ → List ℕ
without x [] = []
without x (y ∷ ys) = cond (eqb x y) ys (y ∷ without x ys)

-- a list with the numbers of another left out, each once
abbrev pub left_of : List ℕ → List ℕ → List ℕ
left_of ys [] = ys
left_of ys (x ∷ xs) = left_of (without x ys) xs

pub hit_self : (x : ℕ) → hit x x ≡ 1
hit_self x = ap (λ b. cond b 1 0) (eq-eqb x x refl)

-- leaving out takes one away of that number, and of no other
pub occurs_without : (e x : ℕ) (ys : List ℕ) → 1 ≤ occurs x ys → occurs e ys ≡ hit e x + occurs e (without x ys)
occurs_without e x [] h = absurd (omega arith)
occurs_without e x (y ∷ ys) h =
    (elim (eqb x y) as (λ b. eqb x y ≡ b → hit e y + occurs e ys ≡ hit e x + occurs e (cond b ys (y ∷ without x ys))) [
      | true ↦ λ t. ap (λ z. hit e z + occurs e ys) (sym (eqb-true x y t))
      | false ↦ λ t.
          let missed : hit x y ≡ 0 = ap (λ b. cond b 1 0) t in
          let more : 1 ≤ occurs x ys = omega arith in
          omega (arith, occurs_without e x ys more)
    ]) refl

-- what holds of each in a list holds of each in what is left of it
pub all_without : (P : ℕ → Type 0) (x : ℕ) (ys : List ℕ) → All P ys → All P (without x ys)
all_without P x [] h = tt
all_without P x (y ∷ ys) h =
    elim (eqb x y) as (λ b. All P (cond b ys (y ∷ without x ys))) [ true ↦ h.1 | false ↦ (h.0, all_without P x ys h.1) ]

pub all_left : (P : ℕ → Type 0) (xs ys : List ℕ) → All P ys → All P (left_of ys xs)
all_left P [] ys h = h
all_left P (x ∷ xs) ys h = all_left P xs (without x ys) (all_without P x ys h)

-- what is left holds a number as often as the two lists differ
pub occurs_left : (e : ℕ) (xs ys : List ℕ) → ((d : ℕ) → occurs d xs ≤ occurs d ys) → occurs e ys ≡ occurs e xs + occurs e (left_of ys xs)
occurs_left e [] ys h = omega arith
occurs_left e (x ∷ xs) ys h =
    let one : 1 ≤ occurs x ys = omega (arith, h x, hit_self x) in
    let rest : (d : ℕ) → occurs d xs ≤ occurs d (without x ys) = λ d. omega (arith, h d, occurs_without d x ys one) in
    omega (arith, occurs_without e x ys one, occurs_left e xs (without x ys) rest)

-- a list in which no number stands is empty
pub none_occurs : (xs : List ℕ) → ((e : ℕ) → occurs e xs ≡ 0) → xs ≡ []
none_occurs [] h = refl
none_occurs (x ∷ xs) h = absurd (omega (arith, h x, hit_self x))

module _ {C : Type 0} {k : Ops C} (laws : Laws k) where
  -- the total with one left out
  pub total_without : (f : ℕ → C) (x : ℕ) (ys : List ℕ) → 1 ≤ occurs x ys → total k f ys ≡ k.plus (f x) (total k f (without x ys))
  total_without f x [] h = absurd (omega arith)
  total_without f x (y ∷ ys) h =
      (elim (eqb x y) as (λ b. eqb x y ≡ b → k.plus (f y) (total k f ys) ≡ k.plus (f x) (total k f (cond b ys (y ∷ without x ys)))) [
        | true ↦ λ t. ap (λ z. k.plus (f z) (total k f ys)) (sym (eqb-true x y t))
        | false ↦ λ t.
            let missed : hit x y ≡ 0 = ap (λ b. cond b 1 0) t in
            let more : 1 ≤ occurs x ys = omega arith in
            ap (k.plus (f y)) (total_without f x ys more)
            ∙ group laws (f x ∷ f y ∷ total k f (without x ys) ∷ []) (search quoting depth 12) tt
      ]) refl

  -- a total is that of a part of its list and that of what is left
  pub total_left : (f : ℕ → C) (xs ys : List ℕ) → ((e : ℕ) → occurs e xs ≤ occurs e ys) → total k f ys ≡ k.plus (total k f xs) (total k f (left_of ys xs))
  total_left f [] ys h = sym (laws.zero_plus (total k f ys))
  total_left f (x ∷ xs) ys h =
      let one : 1 ≤ occurs x ys = omega (arith, h x, hit_self x) in
      let rest : (e : ℕ) → occurs e xs ≤ occurs e (without x ys) = λ e. omega (arith, h e, occurs_without e x ys one) in
      total_without f x ys one
      ∙ ap (k.plus (f x)) (total_left f xs (without x ys) rest)
      ∙ sym (laws.assoc (f x) (total k f xs) (total k f (left_of (without x ys) xs)))

  -- lists that hold each number as often have one total
  pub total_counted : (f : ℕ → C) (xs ys : List ℕ) → ((e : ℕ) → occurs e xs ≡ occurs e ys) → total k f xs ≡ total k f ys
  total_counted f xs ys h =
      let part : (e : ℕ) → occurs e xs ≤ occurs e ys = λ e. omega (arith, h e) in
      let spent : (e : ℕ) → occurs e (left_of ys xs) ≡ 0 = λ e. omega (arith, h e, occurs_left e xs ys part) in
      sym (total_left f xs ys part ∙ ap (λ l. k.plus (total k f xs) (total k f l)) (none_occurs (left_of ys xs) spent) ∙ plus_zero laws (total k f xs))

  -- a list that holds each number at most as often has at most the total, where no value is below zero
  pub total_part : (f : ℕ → C) (xs ys : List ℕ) → ((e : ℕ) → occurs e xs ≤ occurs e ys) → All (λ e. Le k k.zero (f e)) ys → Le k (total k f xs) (total k f ys)
  total_part f xs ys part least =
      le_trans laws (le_plus_right laws (total k f xs) (total_least laws f (left_of ys xs) (all_left (λ e. Le k k.zero (f e)) xs ys least)))
      (le_same laws (sym (total_left f xs ys part)))
