-- One link after the other, looked for behind its place.
use Rattle.std.specs.Prelude.{ℕ, Bool, true, not, ◌&&◌, List, [], ◌∷◌, ◌++◌}
use Rattle.certificates.specs.Limits.{among}

-- No link of the front stands again after its place, in the front or in the back.
abbrev pub fronts_once : List ℕ → List ℕ → Bool
fronts_once [] back = true
fronts_once (k ∷ ks) back = not (among k (ks ++ back)) && fronts_once ks back
