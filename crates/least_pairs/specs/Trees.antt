-- The tree of the first run, and the pieces into which it falls as sites are struck.
use Rattle.std.specs.Prelude.{ℕ, Bool, false, cond, List, [], ◌∷◌, Some, None, Option, ◌==◌}
use Rattle.least_pairs.specs.Runs.{Label, has}

-- the turn of a label, if there is one
abbrev pub turn_of : {C : Type 0} → Option (Label C) → ℕ → ℕ
turn_of None w = w
turn_of (Some l) w = l.turn

-- the site over whose link a site was labelled; of a site without a label, itself
abbrev pub parent : {C : Type 0} → (ℕ → Option (Label C)) → ℕ → ℕ
parent labels w = turn_of (labels w) w

-- a site and the sites above it, up to the root: the settled sites, newest first, are searched for it, then for its parent, and so on; of a site not settled, none
abbrev pub above : {C : Type 0} → (ℕ → Option (Label C)) → List ℕ → ℕ → List ℕ
above labels [] w = []
above labels (y ∷ ys) w = cond (w == y) (y ∷ above labels ys (parent labels y)) (above labels ys w)

-- a later one, if there is one, else this
abbrev pub later : Option ℕ → ℕ → Option ℕ
later None w = Some w
later (Some t) w = Some t

-- the last of the sites from the front on that come before a struck one
abbrev pub top : List ℕ → List ℕ → Option ℕ
top struck [] = None
top struck (w ∷ ws) = cond (has w struck) None (later (top struck ws) w)

-- whether both are the same site
abbrev pub same_site : Option ℕ → Option ℕ → Bool
same_site None b = false
same_site (Some x) None = false
same_site (Some x) (Some y) = x == y

-- two sites are in one piece: neither is struck, and climbing the tree from either without meeting a struck site leads to one site
abbrev pub joined : (ℕ → List ℕ) → List ℕ → ℕ → ℕ → Bool
joined up struck u v = same_site (top struck (up u)) (top struck (up v))
