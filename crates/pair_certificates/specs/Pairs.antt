-- What the certificate of a circuit says of its pair of routes, and that a pair of routes can always be certified.
use Rattle.std.specs.Prelude.{◌≡◌, ℕ, ◌+◌, ◌<◌, true, List, ◌≢◌}
use Rattle.costs.specs.Costs.{Ops}
use Rattle.networks.specs.Meaning.{Net, Sound}
use Rattle.least_pairs.specs.Views.{view}
use Rattle.least_pairs.specs.Routes.{Pair}
use Rattle.least_pairs.specs.Plans.{answer, pair}
use Rattle.least_pairs.specs.Rightness.{Short}
use Rattle.certificates.specs.Format.{Fields}
use Rattle.certificates.specs.Limits.{circuit_sound, within}
use Rattle.route_links.specs.Along.{metres_along, poles_along}

-- what the certificate of a circuit says of its pair of routes: its sums are those of the links as the network shows them
abbrev pub pair_fields : Net → ℕ → ℕ → ℕ → List ℕ → List ℕ → Fields
pair_fields n circuit root target one two = record { circuit = circuit; root = root; target = target; metres = metres_along n one + metres_along n two; poles = poles_along n one + poles_along n two; one = one; two = two }

-- two different sites, a circuit's number, and two short routes that share no link: then every field is within its limits
abbrev pub PairsAreWithin : {C : Type 0} → Ops C → Type 0
PairsAreWithin k =
    (n : Net) → Sound n → (circuit root target : ℕ) → circuit_sound circuit ≡ true → root < n.sites → target < n.sites → (root ≢ target)
    → (one two : List ℕ) → Pair (view k n) root target one two → Short (view k n) root one → Short (view k n) root two
    → within (pair_fields n circuit root target one two) ≡ true

-- so it is with every pair that a planning answers
abbrev pub AnswersAreWithin : {C : Type 0} → Ops C → Type 0
AnswersAreWithin {C = C} k =
    (n : Net) → Sound n → (circuit root target : ℕ) → circuit_sound circuit ≡ true → root < n.sites → target < n.sites → (root ≢ target)
    → (one two : List ℕ) (total : C) → answer k (view k n) root target ≡ pair one two total
    → within (pair_fields n circuit root target one two) ≡ true
