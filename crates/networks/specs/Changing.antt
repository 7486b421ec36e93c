-- How links change: their channels taken, their light and their metres, and nothing else.
use Rattle.std.specs.Prelude.{ℕ, suc, Bool, cond, not, ◌&&◌, List, [], ◌∷◌, ◌==◌}
use Rattle.networks.specs.declared.model.Link.{Link}
use Rattle.networks.specs.Meaning.{Net}

-- other channels taken, by a function of those taken before
abbrev pub retaken : (ℕ → ℕ) → Link → Link
retaken f l = record { start = l.start; end = l.end; metres = l.metres; poles = l.poles; channels = l.channels; taken = f l.taken; lit = l.lit }

-- dark where the test holds, else as it was
abbrev pub dimmed : Bool → Link → Link
dimmed dark l = record { start = l.start; end = l.end; metres = l.metres; poles = l.poles; channels = l.channels; taken = l.taken; lit = l.lit && not dark }

-- other metres, by a function of those before
abbrev pub remeasured : (ℕ → ℕ) → Link → Link
remeasured f l = record { start = l.start; end = l.end; metres = f l.metres; poles = l.poles; channels = l.channels; taken = l.taken; lit = l.lit }

-- each link of a list changed by a function of its number, the first one's being k
abbrev pub numbered : (ℕ → Link → Link) → ℕ → List Link → List Link
numbered f k [] = []
numbered f k (l ∷ ls) = f k l ∷ numbered f (suc k) ls

-- a network with each link changed by a function of its number
abbrev pub changed : (ℕ → Link → Link) → Net → Net
changed f n = record { sites = n.sites; links = numbered f 0 n.links }

-- a change of the link k alone
abbrev pub only : ℕ → (Link → Link) → ℕ → Link → Link
only k f j l = cond (j == k) (f l) l

-- the network with no channel taken: two networks that agree so differ in channels taken at most
abbrev pub cleared : Net → Net
cleared n = changed (λ k. retaken (λ t. 0)) n
