-- What a route does to the channels of a network, and what its links measure together.
use Rattle.std.specs.Prelude.{ℕ, ◌+◌, ◌-◌, List, sum_by}
use Rattle.costs.specs.Counting.{occurs}
use Rattle.networks.specs.Meaning.{Net, link_at}
use Rattle.networks.specs.Changing.{changed, retaken}

-- a network with one channel more taken on a link for each time that it stands in a route
abbrev pub taken_along : List ℕ → Net → Net
taken_along route n = changed (λ k. retaken (λ t. t + occurs k route)) n

-- a network with one channel fewer taken on a link for each time that it stands in a route, as long as any is
abbrev pub given_along : List ℕ → Net → Net
given_along route n = changed (λ k. retaken (λ t. t - occurs k route)) n

-- the metres of a route's links together
abbrev pub metres_along : Net → List ℕ → ℕ
metres_along n route = sum_by (λ k. (link_at n k).metres) route

-- their pole metres together
abbrev pub poles_along : Net → List ℕ → ℕ
poles_along n route = sum_by (λ k. (link_at n k).poles) route
