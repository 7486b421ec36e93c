-- Equations with sums and negations of a lawful cost kind, and a solver for them.
use Rattle.std.proofs.Common.{◌≡◌, ℕ, zero, suc, ◌+◌, Bool, true, false, ◌&&◌, T, eqb, List, [], ◌∷◌, sym, refl, ap, ◌∙◌, arith}
use Rattle.std.proofs.lemmas.Bool.{eqb-true}
use Rattle.costs.specs.Costs.{Ops, Laws}

module _ {C : Type 0} {k : Ops C} (laws : Laws k) where
  -- zero on the right adds nothing
  pub plus_zero : (x : C) → k.plus x k.zero ≡ x
  plus_zero x = laws.comm x k.zero ∙ laws.zero_plus x

  -- a negation and its value sum to zero
  pub negation_plus : (x : C) → k.plus (k.negation x) x ≡ k.zero
  negation_plus x = laws.comm (k.negation x) x ∙ laws.plus_negation x

  -- what is added on the right can be taken away again
  pub plus_undone : (x y : C) → k.plus (k.plus x y) (k.negation y) ≡ x
  plus_undone x y = laws.assoc x y (k.negation y) ∙ ap (k.plus x) (laws.plus_negation y) ∙ plus_zero x

  -- equal sums with one part equal have the other part equal
  pub plus_cancel : (x y z : C) → k.plus x z ≡ k.plus y z → x ≡ y
  plus_cancel x y z h = sym (plus_undone x z) ∙ ap (λ s. k.plus s (k.negation z)) h ∙ plus_undone y z

  -- four parts, paired the other way
  pub plus_swap : (a b c d : C) → k.plus (k.plus a b) (k.plus c d) ≡ k.plus (k.plus a c) (k.plus b d)
  plus_swap a b c d =
      laws.assoc a b (k.plus c d)
      ∙ ap (k.plus a) (sym (laws.assoc b c d) ∙ ap (λ s. k.plus s d) (laws.comm b c) ∙ laws.assoc c b d)
      ∙ sym (laws.assoc a c (k.plus b d))

-- a sum of values that are named by number
infixl 6 ◌⊕◌
pub data Term : Type 0 where
  var : ℕ → Term
  none : Term
  ◌⊕◌ : Term → Term → Term
  ⊖ : Term → Term

-- the value of that number in a list, and past its end zero
abbrev pub at : {C : Type 0} → Ops C → List C → ℕ → C
at k [] i = k.zero
at k (a ∷ env) zero = a
at k (a ∷ env) (suc i) = at k env i

-- what a term stands for
abbrev pub value : {C : Type 0} → Ops C → List C → Term → C
value k env (var i) = at k env i
value k env none = k.zero
value k env (s ⊕ t) = k.plus (value k env s) (value k env t)
value k env (⊖ t) = k.negation (value k env t)

-- one at i, and zero elsewhere
abbrev pub one_at : ℕ → ℕ → ℕ
one_at zero zero = 1
one_at zero (suc j) = 0
one_at (suc i) zero = 0
one_at (suc i) (suc j) = one_at i j

-- how often each name stands in a term, counted up and down
pub record Counts : Type 0 where
  pub up : ℕ → ℕ
  pub down : ℕ → ℕ

abbrev pub counts : Term → Counts
counts (var i) = record { up = one_at i; down = λ _. 0 }
counts none = record { up = λ _. 0; down = λ _. 0 }
counts (s ⊕ t) = record { up = λ i. (counts s).up i + (counts t).up i; down = λ i. (counts s).down i + (counts t).down i }
counts (⊖ t) = record { up = (counts t).down; down = (counts t).up }

-- two counts agree on the names of a list
abbrev pub agree : {C : Type 0} → List C → (ℕ → ℕ) → (ℕ → ℕ) → Bool
agree [] f g = true
agree (a ∷ env) f g = eqb (f 0) (g 0) && agree env (λ i. f (suc i)) (λ i. g (suc i))

-- two terms stand for one value in every group
abbrev pub same : {C : Type 0} → List C → Term → Term → Bool
same env s t = agree env (λ i. (counts s).up i + (counts t).down i) (λ i. (counts t).up i + (counts s).down i)

agree_parts : (b c : Bool) → T (b && c) → (b ≡ true) × T c
agree_parts true c h = (refl, h)
agree_parts false c h = absurd h

module _ {C : Type 0} {k : Ops C} (laws : Laws k) where
  -- n times a value
  abbrev times : ℕ → C → C
  times zero a = k.zero
  times (suc n) a = k.plus a (times n a)

  -- the values of a list, each as often as counted
  abbrev weigh : List C → (ℕ → ℕ) → C
  weigh [] f = k.zero
  weigh (a ∷ env) f = k.plus (times (f 0) a) (weigh env (λ i. f (suc i)))

  times_plus : (m n : ℕ) (a : C) → times (m + n) a ≡ k.plus (times m a) (times n a)
  times_plus zero n a = ap (λ s. times s a) (omega arith) ∙ sym (laws.zero_plus (times n a))
  times_plus (suc m) n a =
      let moved : suc m + n ≡ suc (m + n) = omega arith in
      ap (λ s. times s a) moved ∙ ap (k.plus a) (times_plus m n a) ∙ sym (laws.assoc a (times m a) (times n a))

  weigh_none : (env : List C) → weigh env (λ _. 0) ≡ k.zero
  weigh_none [] = refl
  weigh_none (a ∷ env) = laws.zero_plus (weigh env (λ _. 0)) ∙ weigh_none env

  weigh_plus : (env : List C) (f g : ℕ → ℕ) → weigh env (λ i. f i + g i) ≡ k.plus (weigh env f) (weigh env g)
  weigh_plus [] f g = sym (laws.zero_plus k.zero)
  weigh_plus (a ∷ env) f g =
      let rest = weigh_plus env (λ i. f (suc i)) (λ i. g (suc i)) in
      ap (λ s. k.plus s (weigh env (λ i. f (suc i) + g (suc i)))) (times_plus (f 0) (g 0) a)
      ∙ ap (k.plus (k.plus (times (f 0) a) (times (g 0) a))) rest
      ∙ plus_swap laws (times (f 0) a) (times (g 0) a) (weigh env (λ i. f (suc i))) (weigh env (λ i. g (suc i)))

  weigh_one : (env : List C) (i : ℕ) → weigh env (one_at i) ≡ at k env i
  weigh_one [] i = refl
  weigh_one (a ∷ env) zero = ap (k.plus (k.plus a k.zero)) (weigh_none env) ∙ plus_zero laws (k.plus a k.zero) ∙ plus_zero laws a
  weigh_one (a ∷ env) (suc i) = laws.zero_plus (weigh env (one_at i)) ∙ weigh_one env i

  weigh_agree : (env : List C) (f g : ℕ → ℕ) → T (agree env f g) → weigh env f ≡ weigh env g
  weigh_agree [] f g h = refl
  weigh_agree (a ∷ env) f g h =
      let both = agree_parts (eqb (f 0) (g 0)) (agree env (λ i. f (suc i)) (λ i. g (suc i))) h in
      ap (λ n. k.plus (times n a) (weigh env (λ i. f (suc i)))) (eqb-true (f 0) (g 0) both.0)
      ∙ ap (k.plus (times (g 0) a)) (weigh_agree env (λ i. f (suc i)) (λ i. g (suc i)) both.1)

  -- a term and what it counts down are what it counts up
  balance : (env : List C) (t : Term) → k.plus (value k env t) (weigh env (counts t).down) ≡ weigh env (counts t).up
  balance env (var i) = ap (k.plus (at k env i)) (weigh_none env) ∙ plus_zero laws (at k env i) ∙ sym (weigh_one env i)
  balance env none = laws.zero_plus (weigh env (λ _. 0))
  balance env (s ⊕ t) =
      ap (k.plus (k.plus (value k env s) (value k env t))) (weigh_plus env (counts s).down (counts t).down)
      ∙ plus_swap laws (value k env s) (value k env t) (weigh env (counts s).down) (weigh env (counts t).down)
      ∙ ap (λ x. k.plus x (k.plus (value k env t) (weigh env (counts t).down))) (balance env s)
      ∙ ap (k.plus (weigh env (counts s).up)) (balance env t)
      ∙ sym (weigh_plus env (counts s).up (counts t).up)
  balance env (⊖ t) =
      ap (k.plus (k.negation (value k env t))) (sym (balance env t))
      ∙ sym (laws.assoc (k.negation (value k env t)) (value k env t) (weigh env (counts t).down))
      ∙ ap (λ x. k.plus x (weigh env (counts t).down)) (negation_plus laws (value k env t))
      ∙ laws.zero_plus (weigh env (counts t).down)

  -- two terms that count alike are equal: `solve laws (a ∷ b ∷ []) s t tt`
  pub solve : (env : List C) (s t : Term) → T (same env s t) → value k env s ≡ value k env t
  solve env s t h =
      let ds = weigh env (counts s).down in
      let dt = weigh env (counts t).down in
      let left : k.plus (value k env s) (k.plus ds dt) ≡ weigh env (λ i. (counts s).up i + (counts t).down i) =
      sym (laws.assoc (value k env s) ds dt) ∙ ap (λ x. k.plus x dt) (balance env s) ∙ sym (weigh_plus env (counts s).up (counts t).down) in
      let right : k.plus (value k env t) (k.plus dt ds) ≡ weigh env (λ i. (counts t).up i + (counts s).down i) =
      sym (laws.assoc (value k env t) dt ds) ∙ ap (λ x. k.plus x ds) (balance env t) ∙ sym (weigh_plus env (counts t).up (counts s).down) in
      plus_cancel laws (value k env s) (value k env t) (k.plus ds dt)
      (left ∙ weigh_agree env (λ i. (counts s).up i + (counts t).down i) (λ i. (counts t).up i + (counts s).down i) h ∙ sym right ∙ ap (k.plus (value k env t)) (laws.comm dt ds))
