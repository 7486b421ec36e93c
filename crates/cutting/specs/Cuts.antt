-- The link that cuts a target off.
use Rattle.std.specs.Prelude.{ℕ, cond, List, [], ◌∷◌, Some, None, Option}
use Rattle.costs.specs.Costs.{Ops}
use Rattle.least_pairs.specs.Views.{View, without}
use Rattle.least_pairs.specs.Plans.{first_run, labelled}

-- the first of some links without which the target is out of reach, if there is one
abbrev pub found_cut : {C : Type 0} → Ops C → View C → ℕ → ℕ → List ℕ → Option ℕ
found_cut k v root target [] = None
found_cut k v root target (e ∷ es) = cond (labelled ((first_run k (without e v) root).labels target)) (found_cut k v root target es) (Some e)
