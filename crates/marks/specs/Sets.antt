-- Sets of sites, as tests of a site.
use Rattle.std.specs.Prelude.{ℕ, Bool, true, false, cond, not, List, ◌==◌, slice_index}

-- a set with one site more
abbrev pub with : ℕ → (ℕ → Bool) → ℕ → Bool
with site set w = cond (w == site) true (set w)

-- a set without one site
abbrev pub less : ℕ → (ℕ → Bool) → ℕ → Bool
less site set w = cond (w == site) false (set w)

-- the set that a table of bytes holds: the sites whose byte is not zero
abbrev pub in_bytes : List ℕ → ℕ → Bool
in_bytes bytes w = not (slice_index bytes w == 0)
