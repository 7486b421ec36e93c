-- The two runs of a planning, the reading of a pair, and the answers.
use Rattle.std.specs.Prelude.{ℕ, zero, suc, Bool, true, false, cond, not, ◌&&◌, ◌||◌, List, [], ◌∷◌, ◌++◌, Some, None, Option, ◌==◌}
use Rattle.costs.specs.Costs.{Ops}
use Rattle.least_pairs.specs.Views.{View, without}
use Rattle.least_pairs.specs.Runs.{Label, Job, State, has, outcome}
use Rattle.least_pairs.specs.Trees.{parent, above, joined}

-- the first run: a settled site considers the usable links that start there, and each adds its cost
abbrev pub first_job : {C : Type 0} → View C → Job C
first_job v = record {
  sites = v.sites;
  links = v.links;
  end = v.end;
  considers = λ y S e. v.usable e && (v.start e == y);
  adds = v.cost;
}

-- what the first run leaves: distances and tree links, and the sites reached in the order they were settled
unfoldable pub first_run : {C : Type 0} → Ops C → View C → ℕ → State C
first_run k v root = outcome k (first_job v) root

-- the distance of a site, zero where it has none
abbrev pub cost_of : {C : Type 0} → Ops C → Option (Label C) → C
cost_of k None = k.zero
cost_of k (Some l) = l.cost

-- whether a label came over this link
abbrev pub came_over : {C : Type 0} → Option (Label C) → ℕ → Bool
came_over None e = false
came_over (Some l) e = l.link == e

-- whether a link is the tree link of its end
abbrev pub tree_link : {C : Type 0} → View C → State C → ℕ → ℕ → Bool
tree_link v first root e = came_over (first.labels (v.end e)) e && not (v.end e == root)

-- the reduced cost of a link: its cost plus its start's distance minus its end's
abbrev pub reduced : {C : Type 0} → Ops C → View C → State C → ℕ → C
reduced k v first e = k.plus (k.plus (v.cost e) (cost_of k (first.labels (v.start e)))) (k.negation (cost_of k (first.labels (v.end e))))

-- a site and those above it on the tree of the first run
abbrev pub up : {C : Type 0} → State C → ℕ → List ℕ
up first w = above first.labels first.order w

-- the second run: y, struck after S, considers the usable links that are no tree links, have both ends in its piece, do not end at y, and start at y or join two different parts of what is left of the piece without y
abbrev pub second_job : {C : Type 0} → Ops C → View C → ℕ → State C → Job C
second_job k v root first = record {
  sites = v.sites;
  links = v.links;
  end = v.end;
  considers = λ y S e.
      (v.usable e && not (tree_link v first root e))
      && ((joined (up first) S y (v.start e) && joined (up first) S y (v.end e))
      && (not (v.end e == y) && (v.start e == y || not (joined (up first) (y ∷ S) (v.start e) (v.end e)))));
  adds = reduced k v first;
}

-- what the second run leaves: labels, entry links and turns, and the sites struck in their order
unfoldable pub second_run : {C : Type 0} → Ops C → View C → ℕ → State C → State C
second_run k v root first = outcome k (second_job k v root first) root

-- the marks of a target: the target, its turn, the turn of that and so on; the struck sites, newest first, are searched for each in turn. The root is not marked
abbrev pub marks : {C : Type 0} → (ℕ → Option (Label C)) → ℕ → List ℕ → ℕ → List ℕ
marks labels root [] w = []
marks labels root (y ∷ ys) w = cond (w == y) (cond (y == root) [] (y ∷ marks labels root ys (parent labels y))) (marks labels root ys w)

-- the link of a label, if there is one
abbrev pub link_of : {C : Type 0} → Option (Label C) → ℕ
link_of None = 0
link_of (Some l) = l.link

-- a list with a site wiped
abbrev pub wiped : ℕ → List ℕ → List ℕ
wiped w [] = []
wiped w (y ∷ ys) = cond (w == y) (wiped w ys) (y ∷ wiped w ys)

-- a walk back from a site to the root: from a marked site over its entry link, wiping the mark, else over its tree link. It gives the links passed, from the root on, and the marks left
abbrev pub walk_back : {C : Type 0} → View C → State C → State C → ℕ → ℕ → ℕ → List ℕ → List ℕ → List ℕ × List ℕ
walk_back v first second root zero w ms es = (es, ms)
walk_back v first second root (suc n) w ms es =
    let entry = link_of (second.labels w) in
    let tree = link_of (first.labels w) in
    let over = cond (has w ms) entry tree in
    cond (w == root) (es, ms) (walk_back v first second root n (v.start over) (wiped w ms) (over ∷ es))

-- the pair of a target: two walks back, the second with the marks that the first left
unfoldable pub pair_read : {C : Type 0} → View C → State C → State C → ℕ → ℕ → List ℕ × List ℕ
pair_read v first second root target =
    let one = walk_back v first second root v.links target (marks second.labels root second.order target) [] in
    let two = walk_back v first second root v.links target one.1 [] in
    (one.0, two.0)

-- the tree links from the root to a site, by the sites above it
abbrev pub tree_route : {C : Type 0} → State C → List ℕ → List ℕ
tree_route first [] = []
tree_route first (w ∷ []) = []
tree_route first (w ∷ u ∷ us) = tree_route first (u ∷ us) ++ link_of (first.labels w) ∷ []

-- whether a site has a label
abbrev pub labelled : {C : Type 0} → Option (Label C) → Bool
labelled None = false
labelled (Some l) = true

-- the first of some links without which the target is out of reach
abbrev pub first_cut : {C : Type 0} → Ops C → View C → ℕ → ℕ → List ℕ → ℕ
first_cut k v root target [] = 0
first_cut k v root target (e ∷ es) = cond (labelled ((first_run k (without e v) root).labels target)) (first_cut k v root target es) e

-- an answer for a target: no route leads there; every route uses one link, and this is the first such; or a pair with its total
pub data Answer (C : Type 0) : Type 0 where
  no_route : Answer C
  one_link : ℕ → Answer C
  pair : List ℕ → List ℕ → C → Answer C

-- the answer by what the two runs left
abbrev pub answered : {C : Type 0} → Ops C → View C → ℕ → ℕ → State C → State C → Option (Label C) → Option (Label C) → Answer C
answered k v root target first second None label = no_route
answered k v root target first second (Some d) None = one_link (first_cut k v root target (tree_route first (up first target)))
answered k v root target first second (Some d) (Some l) =
    let routes = pair_read v first second root target in
    pair routes.0 routes.1 (k.plus l.cost (k.plus d.cost d.cost))

-- the answer for a root and a target
unfoldable pub answer : {C : Type 0} → Ops C → View C → ℕ → ℕ → Answer C
answer k v root target =
    let first = first_run k v root in
    let second = second_run k v root first in
    answered k v root target first second (first.labels target) (second.labels target)

-- an entry of a survey
pub data Entry (C : Type 0) : Type 0 where
  root_entry : Entry C
  total_entry : C → Entry C
  no_route_entry : Entry C
  one_link_entry : ℕ → Entry C

-- an answer as an entry of a survey
abbrev pub entry_of : {C : Type 0} → Answer C → Entry C
entry_of no_route = no_route_entry
entry_of (one_link e) = one_link_entry e
entry_of (pair one two total) = total_entry total

-- the survey of a root, site by site
unfoldable pub survey : {C : Type 0} → Ops C → View C → ℕ → ℕ → Entry C
survey k v root w = cond (w == root) root_entry (entry_of (answer k v root w))
