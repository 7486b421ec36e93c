-- The solver of equations and comparisons, with its terms found by `search quoting`.
use Rattle.std.proofs.Common.{◌≡◌, ℕ, suc, T, List, ◌∷◌, sym, refl, ap, ◌∙◌}
use Rattle.costs.specs.Costs.{Ops, Laws, Le, Lt}
use Rattle.costs.proofs.Group.{Term, value, at, same, solve}
use Rattle.costs.proofs.Group.Term.{var, none, ◌⊕◌, ⊖}
use Rattle.costs.proofs.Order.{less_shift}

-- a value's place in a list
pub record Place {C : Type 0} (k : Ops C) (env : List C) (x : C) : Type 0 where
  pub number : ℕ
  pub is : at k env number ≡ x

-- a term that stands for a value
pub record Quoted {C : Type 0} (k : Ops C) (env : List C) (x : C) : Type 0 where
  pub term : Term
  pub is : value k env term ≡ x

-- terms for two values
pub record Both {C : Type 0} (k : Ops C) (env : List C) (x y : C) : Type 0 where
  pub left : Quoted k env x
  pub right : Quoted k env y

-- terms for the values of two comparisons
pub record Four {C : Type 0} (k : Ops C) (env : List C) (a b x y : C) : Type 0 where
  pub given : Both k env a b
  pub wanted : Both k env x y

abbrev pub here : {C : Type 0} {k : Ops C} {env : List C} {x : C} → Place k (x ∷ env) x
here = record { number = 0; is = refl }

abbrev pub there : {C : Type 0} {k : Ops C} {env : List C} {x y : C} → Place k env x → Place k (y ∷ env) x
there p = record { number = suc p.number; is = p.is }

abbrev pub quote_at : {C : Type 0} {k : Ops C} {env : List C} {x : C} → Place k env x → Quoted k env x
quote_at p = record { term = var p.number; is = p.is }

abbrev pub quote_zero : {C : Type 0} {k : Ops C} {env : List C} → Quoted k env k.zero
quote_zero = record { term = none; is = refl }

abbrev pub quote_plus : {C : Type 0} {k : Ops C} {env : List C} {x y : C} → Quoted k env x → Quoted k env y → Quoted k env (k.plus x y)
quote_plus {k = k} {env = env} {x = x} p q = record {
  term = p.term ⊕ q.term;
  is = ap (λ s. k.plus s (value k env q.term)) p.is ∙ ap (k.plus x) q.is;
}

abbrev pub quote_negation : {C : Type 0} {k : Ops C} {env : List C} {x : C} → Quoted k env x → Quoted k env (k.negation x)
quote_negation {k = k} p = record { term = ⊖ p.term; is = ap k.negation p.is }

abbrev pub quote_both : {C : Type 0} {k : Ops C} {env : List C} {x y : C} → Quoted k env x → Quoted k env y → Both k env x y
quote_both p q = record { left = p; right = q }

abbrev pub quote_four : {C : Type 0} {k : Ops C} {env : List C} {a b x y : C} → Both k env a b → Both k env x y → Four k env a b x y
quote_four p q = record { given = p; wanted = q }

pub ruleset quoting = (quote_four, quote_both, quote_plus, quote_negation, quote_zero, quote_at, here, there)

module _ {C : Type 0} {k : Ops C} (laws : Laws k) where
  -- an equation that holds in every group: `group laws (a ∷ b ∷ []) (search quoting depth 12) tt`
  pub group : (env : List C) {x y : C} (q : Both k env x y) → T (same env q.left.term q.right.term) → x ≡ y
  group env q h = sym q.left.is ∙ solve laws env q.left.term q.right.term h ∙ q.right.is

  -- two comparisons of values with the same difference: x - y is a - b in every group
  less_alike : (env : List C) {a b x y : C} (q : Four k env a b x y) → T (same env (q.wanted.left.term ⊕ q.given.right.term) (q.given.left.term ⊕ q.wanted.right.term)) → k.plus x b ≡ k.plus a y
  less_alike env q h = group env (quote_both (quote_plus q.wanted.left q.given.right) (quote_plus q.given.left q.wanted.right)) h

  turned : {a b x y : C} → k.plus x b ≡ k.plus a y → k.plus y a ≡ k.plus b x
  turned {a} {b} {x} {y} e = laws.comm y a ∙ sym e ∙ laws.comm x b

  -- x ≤ y from a ≤ b where x - y is a - b: `by_le laws (a ∷ b ∷ []) h (search quoting depth 12) tt`
  pub by_le : (env : List C) {a b x y : C} → Le k a b → (q : Four k env a b x y) → T (same env (q.wanted.left.term ⊕ q.given.right.term) (q.given.left.term ⊕ q.wanted.right.term)) → Le k x y
  by_le env {a} {b} {x} {y} h q t = less_shift laws y x b a (turned (less_alike env q t)) ∙ h

  -- x < y from a < b where x - y is a - b
  pub by_lt : (env : List C) {a b x y : C} → Lt k a b → (q : Four k env a b x y) → T (same env (q.wanted.left.term ⊕ q.given.right.term) (q.given.left.term ⊕ q.wanted.right.term)) → Lt k x y
  by_lt env {a} {b} {x} {y} h q t = less_shift laws x y a b (less_alike env q t) ∙ h
