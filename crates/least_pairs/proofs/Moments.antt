-- The moments of an order, and how many sites it can have.
use Rattle.std.proofs.Common.{◌≡◌, ℕ, zero, suc, ◌<◌, ◌≤◌, true, false, cond, eqb, ◌⊎◌, List, [], ◌∷◌, ◌++◌, length, sym, refl, ap, subst, inl, inr, arith}
use Rattle.std.proofs.lemmas.Bool.{cases_lt, cases_Bool}
use Rattle.costs.specs.Counting.{hit, occurs}
use Rattle.costs.proofs.Counted.{without, occurs_without, hit_self}
use Rattle.least_pairs.specs.Runs.{has}
use Rattle.least_pairs.specs.Laws.{Moment}
use Rattle.least_pairs.proofs.Listed.{has_occurs, lacks_occurs, has_head, has_tail, has_right}
-- the crates above cite these by the names that stand here
pub use Rattle.least_pairs.proofs.Listed.{has_head as has_here, has_tail as has_there, has_right as has_after, has_cases, occurs_has}

-- below the next number is below this or at it
pub below_cases : (f e : ℕ) → f < suc e → (f < e) ⊎ (f ≡ e)
below_cases f e h = elim (cases_lt f e) [ inl l ↦ inl l | inr g ↦ inr (omega arith) ]

-- the site of a moment stands in the order
pub moment_has : {order : List ℕ} {y : ℕ} {S : List ℕ} → Moment order y S → has y order ≡ true
moment_has {order} {y} {S} m = subst (λ o. has y o ≡ true) (sym m.whole) (has_right y m.later (y ∷ S) (has_head y S))

-- what was settled before a moment stands in the order
pub moment_before : {order : List ℕ} {y : ℕ} {S : List ℕ} → Moment order y S → (x : ℕ) → has x S ≡ true → has x order ≡ true
moment_before {order} {y} {S} m x h =
    subst (λ o. has x o ≡ true) (sym m.whole) (has_right x m.later (y ∷ S) (has_tail x y S h))

-- a moment stays one as more sites are settled
pub moment_more : {order : List ℕ} {y : ℕ} {S : List ℕ} → (z : ℕ) → Moment order y S → Moment (z ∷ order) y S
moment_more z m = record { later = z ∷ m.later; whole = ap (λ o. z ∷ o) m.whole }

-- the newest site's moment
pub moment_newest : (y : ℕ) (order : List ℕ) → Moment (y ∷ order) y order
moment_newest y order = record { later = []; whole = refl }

-- an order with one site more, split: at that site or before
split : (y z : ℕ) (order R later : List ℕ) → (y ∷ order ≡ later ++ z ∷ R) → ((z ≡ y) × (R ≡ order)) ⊎ Moment order z R
split y z order R [] e = inl (cc, cc)
split y z order R (x ∷ later) e = inr (record { later = later; whole = cc })

-- a moment with one site more is that site's, or it was one before
pub moment_cases : {y z : ℕ} {order R : List ℕ} → Moment (y ∷ order) z R → ((z ≡ y) × (R ≡ order)) ⊎ Moment order z R
moment_cases {y} {z} {order} {R} m = split y z order R m.later m.whole

-- a list is one longer than with one of its numbers left out
pub length_without : (x : ℕ) (ys : List ℕ) → 1 ≤ occurs x ys → length ys ≡ suc (length (without x ys))
length_without x [] h = absurd (omega arith)
length_without x (y ∷ ys) h =
    (elim (eqb x y) as (λ b. eqb x y ≡ b → suc (length ys) ≡ suc (length (cond b ys (y ∷ without x ys)))) [
      | true ↦ λ t. refl
      | false ↦ λ t.
          let missed : hit x y ≡ 0 = ap (λ b. cond b 1 0) t in
          let more : 1 ≤ occurs x ys = omega arith in
          ap suc (length_without x ys more)
    ]) refl

-- what is in a list without one of its numbers is in the list
pub occurs_in_without : (e x : ℕ) (ys : List ℕ) → 1 ≤ occurs x ys → 1 ≤ occurs e (without x ys) → 1 ≤ occurs e ys
occurs_in_without e x ys h g = omega (arith, occurs_without e x ys h)

-- a list of numbers below a bound, none twice, is no longer than the bound
pub few : (n : ℕ) (xs : List ℕ) → ((e : ℕ) → occurs e xs ≤ 1) → ((e : ℕ) → 1 ≤ occurs e xs → e < n) → length xs ≤ n
few zero [] once below = omega arith
few zero (x ∷ xs) once below = absurd (omega (arith, below x (omega (arith, hit_self x))))
few (suc n) xs once below =
    elim (cases_Bool (has n xs)) [
      | inl t ↦
          grind (arith, has_occurs, occurs_without, hit_self, occurs_in_without, length_without, few n (without n xs))
      | inr f ↦
          let rest : length xs ≤ n = few n xs once (λ e h. grind (arith, lacks_occurs)) in
          omega arith
    ]
