-- How often a number stands in a list of numbers.
use Rattle.std.specs.Prelude.{ℕ, ◌+◌, cond, List, [], ◌∷◌, ◌==◌}

-- 1 where two numbers are equal, and 0 elsewhere
abbrev pub hit : ℕ → ℕ → ℕ
hit e x = cond (e == x) 1 0

-- how often a number stands in a list
abbrev pub occurs : ℕ → List ℕ → ℕ
occurs e [] = 0
occurs e (x ∷ xs) = hit e x + occurs e xs
