-- A run: sites are settled one by one, the least label first, and each labels others over the links that it considers. Both runs of a planning are such runs.
use Rattle.std.specs.Prelude.{ℕ, zero, suc, Bool, true, false, cond, ◌||◌, List, [], ◌∷◌, Some, None, Option, ◌==◌}
use Rattle.costs.specs.Costs.{Ops}

-- a label: its cost, the link that gave it, and the site that was settled then
pub record Label (C : Type 0) : Type 0 where
  pub cost : C
  pub link : ℕ
  pub turn : ℕ

-- what a run does: which links a site considers when it is settled after others, what such a link adds, and where a link leads
pub record Job (C : Type 0) : Type 0 where
  pub sites : ℕ
  pub links : ℕ
  pub end : ℕ → ℕ
  pub considers : ℕ → List ℕ → ℕ → Bool
  pub adds : ℕ → C

-- the labels by site, and the sites settled so far, the newest first
pub record State (C : Type 0) : Type 0 where
  pub labels : ℕ → Option (Label C)
  pub order : List ℕ

-- whether a site is in a list
abbrev pub has : ℕ → List ℕ → Bool
has w [] = false
has w (y ∷ ys) = w == y || has w ys

-- whether a cost is less than that of a label, or there is none
abbrev pub improves : {C : Type 0} → Ops C → C → Option (Label C) → Bool
improves k c None = true
improves k c (Some l) = k.less c l.cost

-- the labels with that of one site replaced
abbrev pub relabelled : {C : Type 0} → (ℕ → Option (Label C)) → ℕ → Label C → ℕ → Option (Label C)
relabelled labels v l w = cond (w == v) (Some l) (labels w)

-- a link considered by y, whose label costs c: its end gets a new label where that costs less than the old, or there was none
abbrev pub offered : {C : Type 0} → Ops C → Job C → ℕ → C → ℕ → (ℕ → Option (Label C)) → ℕ → Option (Label C)
offered k j y c e labels =
    let sum = k.plus c (j.adds e) in
    cond (improves k sum (labels (j.end e))) (relabelled labels (j.end e) (record { cost = sum; link = e; turn = y })) labels

-- the labels after y, settled after S with a label that costs c, has considered the links below a number, in number order
abbrev pub spread : {C : Type 0} → Ops C → Job C → ℕ → C → List ℕ → (ℕ → Option (Label C)) → ℕ → ℕ → Option (Label C)
spread k j y c S labels zero = labels
spread k j y c S labels (suc e) =
    let before = spread k j y c S labels e in
    cond (j.considers y S e) (offered k j y c e before) before

-- the better of a site and of the best among lower ones: less, or the only one with a label
abbrev pub better : {C : Type 0} → Ops C → ℕ → Option (Label C) → Option (ℕ × C) → Option (ℕ × C)
better k w None best = best
better k w (Some l) None = Some (w, l.cost)
better k w (Some l) (Some b) = cond (k.less l.cost b.1) (Some (w, l.cost)) (Some b)

-- among the sites below a number that are not settled and have a label, the least with its cost, of equals the lower number
abbrev pub least : {C : Type 0} → Ops C → State C → ℕ → Option (ℕ × C)
least k s zero = None
least k s (suc w) =
    let best = least k s w in
    cond (has w s.order) best (better k w (s.labels w) best)

-- a site is settled, if there is one to settle
abbrev pub settled : {C : Type 0} → Ops C → Job C → State C → Option (ℕ × C) → State C
settled k j s None = s
settled k j s (Some b) = record { labels = spread k j b.0 b.1 s.order s.labels j.links; order = b.0 ∷ s.order }

-- so many sites are settled, or all that can be
abbrev pub run : {C : Type 0} → Ops C → Job C → ℕ → State C → State C
run k j zero s = s
run k j (suc n) s = let before = run k j n s in settled k j before (least k before j.sites)

-- the beginning: the root has a label of zero, no other site has one, and none is settled
abbrev pub begun : {C : Type 0} → Ops C → ℕ → State C
begun k root = record { labels = λ w. cond (w == root) (Some (record { cost = k.zero; link = 0; turn = root })) None; order = [] }

-- the end of a run: as many turns as there are sites
abbrev pub outcome : {C : Type 0} → Ops C → Job C → ℕ → State C
outcome k j root = run k j j.sites (begun k root)
