-- The marks of pieces: a table has for each site the top of its piece.
use Rattle.std.specs.Prelude.{◌≡◌, ℕ, ◌<◌, Bool, cond, not, ◌&&◌, ◌||◌, List, [], ◌∷◌, Some, None, Option, ◌==◌, slice_index, slice_set}
use Rattle.least_pairs.specs.Runs.{State}
use Rattle.least_pairs.specs.Trees.{top}
use Rattle.least_pairs.specs.Plans.{up}

-- a top as a mark; 65535 stands for none
abbrev pub mark : Option ℕ → ℕ
mark None = 65535
mark (Some z) = z

-- a table has the marks of the sites below n, with S struck
abbrev pub Marked : {C : Type 0} → State C → ℕ → List ℕ → List ℕ → Type 0
Marked first n S table = (w : ℕ) → w < n → slice_index table w ≡ mark (top S (up first w))

-- a table has the marks of the sites below n before the newest of the struck sites was struck
abbrev pub MarkedBefore : {C : Type 0} → State C → ℕ → List ℕ → List ℕ → Type 0
MarkedBefore first n [] table = Unit {0}
MarkedBefore first n (y ∷ S) table = Marked first n S table

-- whether two marks are there and are one
abbrev pub alike : ℕ → ℕ → Bool
alike a b = not (a == 65535) && a == b

-- whether two sites have one mark in a table
abbrev pub together : List ℕ → ℕ → ℕ → Bool
together table u w = alike (slice_index table u) (slice_index table w)

-- a mark, or another where there is none
abbrev pub mark_or : ℕ → ℕ → ℕ
mark_or m w = cond (m == 65535) w m

-- the mark of a site once y is struck: none for y and for a site that had none, the root's own for the root, else the parent's, or the site's own where the parent has none
abbrev pub new_mark : List ℕ → ℕ → ℕ → List ℕ → ℕ → ℕ
new_mark parents root y table w = cond (w == y || slice_index table w == 65535) 65535 (cond (w == root) w (mark_or (slice_index table (slice_index parents w)) w))

-- a table with the marks of some sites made new, the last of them first
abbrev pub renewed : List ℕ → ℕ → ℕ → List ℕ → List ℕ → List ℕ
renewed parents root y [] table = table
renewed parents root y (w ∷ ws) table = let before = renewed parents root y ws table in slice_set before w (new_mark parents root y before w)
