-- What a link offers.
use Rattle.std.specs.Prelude.{ℕ, cond, List, Some, None, Option}
use Rattle.least_pairs.specs.Runs.{Job}

-- a link's end and what it adds, if y, settled after S, considers it
abbrev pub offers : {C : Type 0} → Job C → ℕ → List ℕ → ℕ → Option (ℕ × C)
offers j y S e = cond (j.considers y S e) (Some (j.end e, j.adds e)) None
