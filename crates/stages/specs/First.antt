-- What the first run considers.
use Rattle.std.specs.Prelude.{ℕ, Some, None, Option}
use Rattle.least_pairs.specs.Views.{View, without}

-- a view with one link left out, or none
abbrev pub cut : {C : Type 0} → Option ℕ → View C → View C
cut None v = v
cut (Some e) v = without e v
