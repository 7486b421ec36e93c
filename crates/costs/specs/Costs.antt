-- What a cost kind is: operations on its values, and the laws that they keep.
use Rattle.std.specs.Prelude.{◌≡◌, ℕ, ◌+◌, ◌≤◌, Bool, true, false, cond, List, [], ◌∷◌, nat_le}
use Rattle.costs.specs.declared.link.Lengths.{Lengths}
use Rattle.costs.specs.Links.{Within, longest}

-- the operations of a cost kind whose values are C
pub record Ops (C : Type 0) : Type 0 where
  pub zero : C
  pub plus : C → C → C
  pub negation : C → C
  pub less : C → C → Bool
  pub size : C → ℕ
  pub link : Lengths → C

-- x is at most y
abbrev pub Le : {C : Type 0} → Ops C → C → C → Type 0
Le k x y = k.less y x ≡ false

-- x is less than y
abbrev pub Lt : {C : Type 0} → Ops C → C → C → Type 0
Lt k x y = k.less x y ≡ true

-- the laws of a cost kind: an ordered group, and sizes
pub record Laws {C : Type 0} (k : Ops C) : Type 0 where
  pub assoc : (x y z : C) → k.plus (k.plus x y) z ≡ k.plus x (k.plus y z)
  pub comm : (x y : C) → k.plus x y ≡ k.plus y x
  pub zero_plus : (x : C) → k.plus k.zero x ≡ x
  pub plus_negation : (x : C) → k.plus x (k.negation x) ≡ k.zero
  pub less_self : (x : C) → k.less x x ≡ false
  pub less_once : (x y : C) → k.less x y ≡ true → k.less y x ≡ false
  pub less_else : (x y : C) → k.less x y ≡ false → k.less y x ≡ false → x ≡ y
  pub less_trans : (x y z : C) → k.less x y ≡ true → k.less y z ≡ true → k.less x z ≡ true
  pub plus_less : (x y z : C) → k.less x y ≡ true → k.less (k.plus x z) (k.plus y z) ≡ true
  pub link_least : (l : Lengths) → Within l → k.less (k.link l) k.zero ≡ false
  pub size_zero : k.size k.zero ≡ 0
  pub size_negation : (x : C) → k.size (k.negation x) ≡ k.size x
  pub size_plus : (x y : C) → k.size (k.plus x y) ≤ k.size x + k.size y
  pub size_link : (l : Lengths) → Within l → k.size (k.link l) ≤ longest

-- a link within its limits costs more than zero
abbrev pub AboveZero : {C : Type 0} → Ops C → Type 0
AboveZero k = (l : Lengths) → Within l → k.less k.zero (k.link l) ≡ true

-- the largest size that a worked out value may have
abbrev pub limit : ℕ
limit = 1099511627776

-- the sum worked out: past the limit the whole sum is zero
abbrev pub worked : {C : Type 0} → Ops C → C → C → C
worked k x y = cond (nat_le (k.size x + k.size y) limit) (k.plus x y) k.zero

-- the negation worked out: past the limit it is zero
abbrev pub negated : {C : Type 0} → Ops C → C → C
negated k x = cond (nat_le (k.size x) limit) (k.negation x) k.zero

-- no zero, sum or negation worked out is larger than the limit
pub record SizesStand {C : Type 0} (k : Ops C) : Type 0 where
  pub of_zero : k.size k.zero ≤ limit
  pub of_sum : (x y : C) → k.size (worked k x y) ≤ limit
  pub of_negation : (x : C) → k.size (negated k x) ≤ limit

-- the total of f over a list
abbrev pub total : {C A : Type 0} → Ops C → (A → C) → List A → C
total k f [] = k.zero
total k f (a ∷ rest) = k.plus (f a) (total k f rest)
