-- The kind that counts metres.
use Rattle.std.specs.Prelude.{ℤ, pos, ◌+ℤ◌, neg_ℤ, int_lt, unsigned_abs}
use Rattle.costs.specs.Costs.{Ops}
use Rattle.costs.specs.declared.metres.Length.{Length}

-- so many metres
abbrev pub metres : ℤ → Length
metres n = record { metres = n }

-- metres are added, negated and compared as whole numbers, and a link costs its metres
abbrev pub length_ops : Ops Length
length_ops = record {
  zero = metres (pos 0);
  plus = λ x y. metres (x.metres +ℤ y.metres);
  negation = λ x. metres (neg_ℤ x.metres);
  less = λ x y. int_lt x.metres y.metres;
  size = λ x. unsigned_abs x.metres;
  link = λ l. metres (pos l.metres);
}
