-- The kinds that compare a first number, and a second where the first is equal.
use Rattle.std.specs.Prelude.{ℕ, ◌+◌, ◌<◌, ◌≤◌, max, Bool, not, ◌&&◌, ◌||◌, ℤ, pos, ◌+ℤ◌, neg_ℤ, int_lt, unsigned_abs}
use Rattle.costs.specs.declared.link.Lengths.{Lengths}
use Rattle.costs.specs.declared.pairs.FirstThen.{FirstThen}
use Rattle.costs.specs.Costs.{Ops}
use Rattle.costs.specs.Links.{Within, longest}

-- the two numbers that a link gives a kind
pub record Numbers : Type 0 where
  pub first : Lengths → ℕ
  pub second : Lengths → ℕ

-- both numbers of a link within its limits are at most the longest
pub record Small (n : Numbers) : Type 0 where
  pub first : (l : Lengths) → Within l → n.first l ≤ longest
  pub second : (l : Lengths) → Within l → n.second l ≤ longest

-- a link within its limits gives a number above zero
abbrev pub Positive : Numbers → Type 0
Positive n = (l : Lengths) → Within l → 0 < n.first l + n.second l

-- pole metres, then metres
abbrev pub poles_then_metres : Numbers
poles_then_metres = record { first = λ l. l.poles; second = λ l. l.metres }

-- two numbers as a cost
abbrev pub pair : {P : Type 0} → ℤ → ℤ → FirstThen P
pair a b = record { first = a; second = b; parts = record {} }

-- a pair is less by its first number, or by its second where the first numbers are equal
abbrev pub pair_less : ℤ → ℤ → ℤ → ℤ → Bool
pair_less a b c d = int_lt a c || (not (int_lt c a) && int_lt b d)

-- pairs are added and negated by parts, and the larger part's size is the size
abbrev pub pair_ops : {P : Type 0} → Numbers → Ops (FirstThen P)
pair_ops n = record {
  zero = pair (pos 0) (pos 0);
  plus = λ x y. pair (x.first +ℤ y.first) (x.second +ℤ y.second);
  negation = λ x. pair (neg_ℤ x.first) (neg_ℤ x.second);
  less = λ x y. pair_less x.first x.second y.first y.second;
  size = λ x. max (unsigned_abs x.first) (unsigned_abs x.second);
  link = λ l. pair (pos (n.first l)) (pos (n.second l));
}
