-- What a finished run leaves, as laws of its labels and of the order in which sites were settled.
use Rattle.std.specs.Prelude.{◌≡◌, ℕ, ◌<◌, ◌≤◌, true, ◌⊎◌, List, [], ◌∷◌, ◌++◌, Some, ◌≢◌}
use Rattle.costs.specs.Costs.{Ops, Le}
use Rattle.costs.specs.Counting.{occurs}
use Rattle.least_pairs.specs.Runs.{Label, Job, State, has}

-- a site was settled when just these had been, the newest first
pub record Moment (order : List ℕ) (y : ℕ) (before : List ℕ) : Type 0 where
  pub later : List ℕ
  pub whole : order ≡ later ++ y ∷ before

-- at some moment y, settled after S, considered a link
pub record Considered {C : Type 0} (j : Job C) (order : List ℕ) (y : ℕ) (S : List ℕ) (e : ℕ) : Type 0 where
  pub moment : Moment order y S
  pub link : e < j.links
  pub considers : j.considers y S e ≡ true

-- the laws of a finished run
pub record RunLaws {C : Type 0} (k : Ops C) (j : Job C) (root : ℕ) (s : State C) : Type 0 where
  -- the root was settled first and its label costs zero
  pub root_label : s.labels root ≡ Some (record { cost = k.zero; link = 0; turn = root })
  pub root_first : Moment s.order root []
  -- no site is settled twice; each that is settled is a site and has a label, and no other site has one
  pub once : (w : ℕ) → occurs w s.order ≤ 1
  pub sites : (w : ℕ) → has w s.order ≡ true → w < j.sites
  pub has_label : (w : ℕ) → has w s.order ≡ true → (l : Label C) × (s.labels w ≡ Some l)
  pub is_settled : (w : ℕ) (l : Label C) → s.labels w ≡ Some l → has w s.order ≡ true
  -- sites are settled in the order of their costs
  pub rising : (y : ℕ) (S : List ℕ) → Moment s.order y S → (x : ℕ) → has x S ≡ true → (l m : Label C) → s.labels x ≡ Some l → s.labels y ≡ Some m → Le k l.cost m.cost
  -- a considered link labels its end, at no more than it offers
  pub offers : (y : ℕ) (S : List ℕ) (e : ℕ) → Considered j s.order y S e → (l : Label C) → s.labels y ≡ Some l → (m : Label C) × (s.labels (j.end e) ≡ Some m) × Le k m.cost (k.plus l.cost (j.adds e))
  -- every label but the root's was offered: by its turn, over its link, at its cost
  pub reason : (w : ℕ) (m : Label C) → (w ≢ root) → s.labels w ≡ Some m → (S : List ℕ) × (l : Label C) × Considered j s.order m.turn S m.link × (j.end m.link ≡ w) × (s.labels m.turn ≡ Some l) × (m.cost ≡ k.plus l.cost (j.adds m.link))
  -- a site's turn is settled before it
  pub turn_first : (w : ℕ) (m : Label C) → (w ≢ root) → s.labels w ≡ Some m → (T : List ℕ) → Moment s.order w T → has m.turn T ≡ true
  -- ties of labels: of the offers at a label's cost the earliest stays, and of one site's the lowest link
  pub earliest : (w : ℕ) (m : Label C) → (w ≢ root) → s.labels w ≡ Some m → (y : ℕ) (S : List ℕ) (e : ℕ) (l : Label C) → Considered j s.order y S e → j.end e ≡ w → s.labels y ≡ Some l → m.cost ≡ k.plus l.cost (j.adds e) → (has m.turn S ≡ true) ⊎ ((y ≡ m.turn) × (m.link ≤ e))
  -- ties of sites: a site is settled before another only if it costs less than what the other was offered so far, or as much and has the lower number
  pub chosen : (y : ℕ) (S : List ℕ) (m : Label C) → Moment s.order y S → s.labels y ≡ Some m → (z : ℕ) (R : List ℕ) (e : ℕ) (l : Label C) → Considered j s.order z R e → has z S ≡ true → s.labels z ≡ Some l → (j.end e ≢ y) → (has (j.end e) S ≢ true) → Le k m.cost (k.plus l.cost (j.adds e)) × (m.cost ≡ k.plus l.cost (j.adds e) → y < j.end e)

-- two states with the same order and the same labels
pub record Same {C : Type 0} (s t : State C) : Type 0 where
  pub order : s.order ≡ t.order
  pub labels : (w : ℕ) → s.labels w ≡ t.labels w
