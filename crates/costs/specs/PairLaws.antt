-- A pair that is compared by its first part is a lawful cost kind: proved, and named by the laws of src/ alone.
use Rattle.std.specs.Prelude.{◌≡◌, ℕ, ◌+◌, ◌<◌, ◌≤◌, max, true, false, cond, leb, ℤ, pos, ◌+ℤ◌, neg_ℤ, nat_le, unsigned_abs, refl}
use Rattle.std.proofs.Common.{sym, ap, subst, ◌∙◌, arith}
use Rattle.std.proofs.Math.IntN.{+ℤ_assoc, +ℤ_comm, +ℤ_idl, +ℤ_invr}
use Rattle.std.proofs.lemmas.Int.{ints}
use Rattle.costs.specs.declared.pairs.FirstThen.{FirstThen}
use Rattle.costs.specs.Costs.{Laws, AboveZero, limit, worked}
use Rattle.costs.specs.Pairs.{Numbers, Small, Positive, pair, pair_less, pair_ops}

pair_path : {P : Type 0} {a b c d : ℤ} → a ≡ c → b ≡ d → pair {P = P} a b ≡ pair c d
pair_path p q = cc

less_self : (a b : ℤ) → pair_less a b a b ≡ false
less_self a b = grind (arith, ints)

less_once : (a b c d : ℤ) → pair_less a b c d ≡ true → pair_less c d a b ≡ false
less_once a b c d h = grind (arith, ints)

less_else_first : (a b c d : ℤ) → pair_less a b c d ≡ false → pair_less c d a b ≡ false → a ≡ c
less_else_first a b c d h k = grind (arith, ints)

less_else_second : (a b c d : ℤ) → pair_less a b c d ≡ false → pair_less c d a b ≡ false → b ≡ d
less_else_second a b c d h k = grind (arith, ints)

less_trans : (a b c d e f : ℤ) → pair_less a b c d ≡ true → pair_less c d e f ≡ true → pair_less a b e f ≡ true
less_trans a b c d e f h k = grind (arith, ints)

plus_less : (a b c d e f : ℤ) → pair_less a b c d ≡ true → pair_less (a +ℤ e) (b +ℤ f) (c +ℤ e) (d +ℤ f) ≡ true
plus_less a b c d e f h = grind (arith, ints)

size_negation : (a : ℤ) → unsigned_abs (neg_ℤ a) ≡ unsigned_abs a
size_negation a = omega (arith, ints)

size_plus : (a b : ℤ) → unsigned_abs (a +ℤ b) ≤ unsigned_abs a + unsigned_abs b
size_plus a b = omega (arith, ints)

sizes : {a b c d : ℕ} → a ≡ c → b ≡ d → max a b ≡ max c d
sizes p q = cc

above : (a b : ℕ) → 0 < a + b → pair_less (pos 0) (pos 0) (pos a) (pos b) ≡ true
above a b h = grind arith

pluses : {a b c d : ℕ} → a ≡ c → b ≡ d → a + b ≡ c + d
pluses p q = cc

least : (a b : ℕ) → pair_less (pos a) (pos b) (pos 0) (pos 0) ≡ false
least a b = grind arith

module _ (P : Type 0) (n : Numbers) where
  -- the laws of the pairs of two numbers of a link
  pub pair_laws : Small n → Laws (pair_ops {P = P} n)
  pair_laws small = record {
    assoc = λ x y z. pair_path (+ℤ_assoc x.first y.first z.first) (+ℤ_assoc x.second y.second z.second);
    comm = λ x y. pair_path (+ℤ_comm x.first y.first) (+ℤ_comm x.second y.second);
    zero_plus = λ x. pair_path (+ℤ_idl x.first) (+ℤ_idl x.second);
    plus_negation = λ x. pair_path (+ℤ_invr x.first) (+ℤ_invr x.second);
    less_self = λ x. less_self x.first x.second;
    less_once = λ x y. less_once x.first x.second y.first y.second;
    less_else = λ x y h k. pair_path (less_else_first x.first x.second y.first y.second h k) (less_else_second x.first x.second y.first y.second h k);
    less_trans = λ x y z. less_trans x.first x.second y.first y.second z.first z.second;
    plus_less = λ x y z. plus_less x.first x.second y.first y.second z.first z.second;
    link_least = λ l w. least (n.first l) (n.second l);
    size_zero = refl;
    size_negation = λ x. sizes (size_negation x.first) (size_negation x.second);
    size_plus = λ x y. omega (arith, size_plus x.first y.first, size_plus x.second y.second);
    size_link = λ l w. omega (arith, small.first l w, small.second l w);
  }

  -- a pair with a number above zero is more than zero
  pub pair_above : Positive n → AboveZero (pair_ops {P = P} n)
  pair_above positive l w = above (n.first l) (n.second l) (positive l w)

  -- within the limit, the two sums of parts are the sum worked out
  pub pair_worked : (x y : FirstThen P) (s t : ℕ) (a b : ℤ) → s ≡ (pair_ops {P = P} n).size x → t ≡ (pair_ops {P = P} n).size y → nat_le (s + t) limit ≡ true → a ≡ x.first +ℤ y.first → b ≡ x.second +ℤ y.second → pair a b ≡ worked (pair_ops {P = P} n) x y
  pair_worked x y s t a b hs ht h ha hb =
      let test : leb ((pair_ops {P = P} n).size x + (pair_ops {P = P} n).size y) limit ≡ true = subst (λ m. nat_le m limit ≡ true) (pluses hs ht) h in
      pair_path ha hb ∙ sym (ap (λ v. cond v ((pair_ops {P = P} n).plus x y) (pair_ops {P = P} n).zero) test)
