-- What a pile shows, as one function of its two tables and of the network under both layers.
use Rattle.std.specs.Prelude.{ℕ, Bool}
use Rattle.networks.specs.Meaning.{Net}
use Rattle.layers.specs.Shown.{closed_over, charged_over}

-- a network with each link's amount added to its metres, and then with the closed links dark
abbrev pub piled : (ℕ → Bool) → (ℕ → ℕ) → Net → Net
piled closed amounts n = closed_over closed (charged_over amounts n)
