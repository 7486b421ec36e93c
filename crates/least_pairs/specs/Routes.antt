-- Routes, pairs of routes that share no link, and what is least, cut off or shared.
use Rattle.std.specs.Prelude.{◌≡◌, ℕ, ◌+◌, ◌≤◌, true, List, [], ◌∷◌, ◌++◌, length, ◌≢◌}
use Rattle.costs.specs.Costs.{Ops, Le, total}
use Rattle.costs.specs.Counting.{occurs}
use Rattle.least_pairs.specs.Views.{View}

-- usable links from one site to another, each starting where the last ended
abbrev pub Walk : {C : Type 0} → View C → ℕ → List ℕ → ℕ → Type 0
Walk v from [] to = from ≡ to
Walk v from (e ∷ es) to = (v.usable e ≡ true) × (v.start e ≡ from) × Walk v (v.end e) es to

-- a route: one or more links that lead from root to target, none twice
pub record Route {C : Type 0} (v : View C) (root target : ℕ) (es : List ℕ) : Type 0 where
  pub some : 1 ≤ length es
  pub leads : Walk v root es target
  pub once : (e : ℕ) → occurs e es ≤ 1

-- what a list of links costs
abbrev pub cost : {C : Type 0} → Ops C → View C → List ℕ → C
cost k v es = total k v.cost es

-- two routes from root to target that share no link
pub record Pair {C : Type 0} (v : View C) (root target : ℕ) (one two : List ℕ) : Type 0 where
  pub first : Route v root target one
  pub second : Route v root target two
  pub apart : (e : ℕ) → occurs e one + occurs e two ≤ 1

-- what two routes cost together
abbrev pub pair_cost : {C : Type 0} → Ops C → View C → List ℕ → List ℕ → C
pair_cost k v one two = k.plus (cost k v one) (cost k v two)

-- a least pair: no two routes that share no link cost less together
pub record LeastPair {C : Type 0} (k : Ops C) (v : View C) (root target : ℕ) (one two : List ℕ) : Type 0 where
  pub pair : Pair v root target one two
  pub least : (a b : List ℕ) → Pair v root target a b → Le k (pair_cost k v one two) (pair_cost k v a b)

-- no route leads there
abbrev pub NoRoute : {C : Type 0} → View C → ℕ → ℕ → Type 0
NoRoute v root target = (es : List ℕ) → Route v root target es → ⊥

-- a link that all routes use
abbrev pub Shared : {C : Type 0} → View C → ℕ → ℕ → ℕ → Type 0
Shared v root target e = (es : List ℕ) → Route v root target es → 1 ≤ occurs e es

-- one link stands before another in a list
pub record Before (e f : ℕ) (es : List ℕ) : Type 0 where
  pub front : List ℕ
  pub back : List ℕ
  pub whole : es ≡ front ++ e ∷ back
  pub later : 1 ≤ occurs f back

-- the link that all routes use and meet first: in each it stands before every other link that all routes use
pub record FirstShared {C : Type 0} (v : View C) (root target e : ℕ) : Type 0 where
  pub shared : Shared v root target e
  pub first : (f : ℕ) → Shared v root target f → (f ≢ e) → (es : List ℕ) → Route v root target es → Before e f es

-- the sites that a list of links leads through after its first site
abbrev pub ends : {C : Type 0} → View C → List ℕ → List ℕ
ends v [] = []
ends v (e ∷ es) = v.end e ∷ ends v es

-- a route that visits no site twice, the root included
abbrev pub Simple : {C : Type 0} → View C → ℕ → List ℕ → Type 0
Simple v root es = (w : ℕ) → occurs w (root ∷ ends v es) ≤ 1
