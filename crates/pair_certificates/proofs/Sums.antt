-- How large the sums of a route's lengths get.
use Rattle.std.proofs.Common.{◌≡◌, ℕ, ◌*◌, ◌≤◌, List, [], ◌∷◌, length, sum_by, ap, arith}
use Rattle.std.proofs.lemmas.List.Sums.{sum_by-cons}
use Rattle.networks.specs.Meaning.{Net, Sound, link_at}
use Rattle.route_links.specs.Along.{metres_along, poles_along}
use Rattle.route_links.proofs.Summing.{metres_low}

-- a sum is at most so much for each link
sum_few : (has : ℕ → ℕ) → ((k : ℕ) → has k ≤ 1000000) → (ks : List ℕ) → sum_by has ks ≤ 1000000 * length ks
sum_few has low [] = omega arith
sum_few has low (x ∷ ks) = omega (arith, low x, sum_few has low ks, sum_by-cons has x ks)

module _ (n : Net) (sound : Sound n) (route : List ℕ) (few : length route ≤ 255) where
  -- the metres of a route of at most 255 links
  pub metres_most : metres_along n route ≤ 255000000
  metres_most = omega (arith, few, sum_few (λ k. (link_at n k).metres) (λ k. (metres_low n sound k).0) route)

  -- its pole metres
  poles_most : poles_along n route ≤ 255000000
  poles_most = omega (arith, few, sum_few (λ k. (link_at n k).poles) (λ k. (metres_low n sound k).1) route)

  -- both sums as they are added up
  pub sums_most : (sums : ℕ × ℕ) → sums ≡ (metres_along n route, poles_along n route) → (sums.0 ≤ 255000000) × (sums.1 ≤ 255000000)
  sums_most sums added = (omega (arith, metres_most, ap (λ (x : ℕ × ℕ). x.0) added), omega (arith, poles_most, ap (λ (x : ℕ × ℕ). x.1) added))
