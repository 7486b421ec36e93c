-- What the second run considers, by its tables.
use Rattle.std.specs.Prelude.{◌≡◌, ℕ, ◌<◌, ◌≤◌, Bool, true, not, ◌&&◌, ◌||◌, List, reverse, length, ◌==◌, slice_index}
use Rattle.costs.specs.Costs.{Ops, worked, negated}
use Rattle.least_pairs.specs.Views.{View}
use Rattle.least_pairs.specs.Runs.{has}
use Rattle.least_pairs.specs.Plans.{first_run}
use Rattle.runs.specs.Tables.{Holds}
use Rattle.stages.specs.Marks.{Marked, MarkedBefore, together}

-- tables hold what the first run leaves: the labels by site, and the sites reached in the order they were settled
pub record FirstLeft {C : Type 0} (k : Ops C) (v : View C) (root : ℕ) (distance : List C) (tree parents order : List ℕ) : Type 0 where
  pub root_site : root < v.sites
  pub distances : v.sites ≤ length distance
  pub trees : v.sites ≤ length tree
  pub all_parents : v.sites ≤ length parents
  pub labels : Holds k v.sites distance tree parents (first_run k v root).labels
  pub reached : reverse order ≡ (first_run k v root).order

-- what a second stage works with when S are struck, the newest first: the marks of the parts with S struck, and those of the pieces before the newest was
pub record Ready {C : Type 0} (k : Ops C) (v : View C) (root : ℕ) (distance : List C) (tree parents order piece part : List ℕ) (S : List ℕ) : Type 0 where
  pub first_left : FirstLeft k v root distance tree parents order
  pub pieces : v.sites ≤ length piece
  pub parts : v.sites ≤ length part
  pub struck : (w : ℕ) → has w S ≡ true → w < v.sites
  pub part_marks : Marked (first_run k v root) v.sites S part
  pub piece_marks : MarkedBefore (first_run k v root) v.sites S piece

-- whether a link is the tree link of its end, by the table of tree links
abbrev pub tree_linked : List ℕ → ℕ → ℕ → ℕ → Bool
tree_linked tree root end e = slice_index tree end == e && not (end == root)

-- whether y admits a usable link from start to end: no tree link, both ends in y's piece, not into y, and from y or between two parts
abbrev pub admitted : List ℕ → List ℕ → List ℕ → ℕ → ℕ → ℕ → ℕ → ℕ → Bool
admitted tree piece part root y start end e =
    not (tree_linked tree root end e)
    && ((together piece y start && together piece y end)
    && (not (end == y) && (start == y || not (together part start end))))

-- the reduced cost worked out: the cost plus the start's distance minus the end's
abbrev pub reduced_worked : {C : Type 0} → Ops C → C → C → C → C
reduced_worked k cost at_start at_end = worked k (worked k cost at_start) (negated k at_end)
