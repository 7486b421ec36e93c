-- The limits of a link's lengths.
use Rattle.std.specs.Prelude.{ℕ, ◌≤◌}
use Rattle.costs.specs.declared.link.Lengths.{Lengths}

-- a link is one metre to a thousand kilometres long
abbrev pub longest : ℕ
longest = 1000000

-- a link within its limits: one metre at least, the longest at most, and no more pole metres than metres
pub record Within (l : Lengths) : Type 0 where
  pub some : 1 ≤ l.metres
  pub most : l.metres ≤ longest
  pub carried : l.poles ≤ l.metres
