-- Numbers that stand at most once in a list.
use Rattle.std.proofs.Common.{◌≡◌, ℕ, ◌≤◌, true, false, not, cond, List, [], ◌∷◌, refl, sym, ap, arith}
use Rattle.std.proofs.lemmas.Bool.{and_from, or_from, eq-eqb, ne_eqb}
use Rattle.costs.specs.Counting.{hit, occurs}
use Rattle.costs.proofs.Counted.{hit_self}
use Rattle.certificates.specs.Limits.{among, none_twice}

-- a number that is no hit for another is not that other
missed : (k x : ℕ) → hit k x ≡ 0 → x ≡ k → ⊥
missed k x none same = let one : hit k x ≡ 1 = ap (λ b. cond b 1 0) (eq-eqb k x (sym same)) in omega (arith, none, one)

-- a number that stands nowhere in a list is not among its numbers
not_among : (k : ℕ) (xs : List ℕ) → occurs k xs ≡ 0 → among k xs ≡ false
not_among k [] none = refl
not_among k (x ∷ xs) none =
    let here : hit k x ≡ 0 = omega (arith, none) in
    let later : occurs k xs ≡ 0 = omega (arith, none) in
    or_from _ _ (ne_eqb x k (missed k x here)) (not_among k xs later)

-- where each number stands at most once, none stands twice
pub once_none_twice : (xs : List ℕ) → ((k : ℕ) → occurs k xs ≤ 1) → none_twice xs ≡ true
once_none_twice [] once = refl
once_none_twice (x ∷ xs) once =
    let others : occurs x xs ≡ 0 = omega (arith, once x, hit_self x) in
    let rest : (k : ℕ) → occurs k xs ≤ 1 = λ k. omega (arith, once k) in
    and_from _ _ (ap not (not_among x xs others)) (once_none_twice xs rest)
