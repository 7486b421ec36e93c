-- What a table of entries holds.
use Rattle.std.specs.Prelude.{◌≡◌, ℕ, zero, suc, ◌<◌, Bool, cond, not, ◌&&◌, ◌||◌, List, Some, None, Option, ◌==◌, ◌≢◌, nat_lt, slice_index_or}
use Rattle.costs.specs.Costs.{Ops}
use Rattle.queue.specs.declared.entries.Entry.{Entry}

-- the entry at a place of a table
abbrev pub entry_at : {C : Type 0} → Ops C → List (Entry C) → ℕ → Entry C
entry_at k xs i = slice_index_or xs i (record { cost = k.zero; site = 0 })

-- whether an entry comes before another: its cost is less, or the same and its site lower
abbrev pub before : {C : Type 0} → Ops C → Entry C → Entry C → Bool
before k x y = k.less x.cost y.cost || (not (k.less y.cost x.cost) && nat_lt x.site y.site)

-- the cost with which a site stands at one of the places below a number, if it does
abbrev pub among : {C : Type 0} → (ℕ → Entry C) → ℕ → ℕ → Option C
among f zero s = None
among f (suc i) s = cond ((f i).site == s) (Some (f i).cost) (among f i s)

-- at the places below a number each site stands once at most
abbrev pub Once : {C : Type 0} → (ℕ → Entry C) → ℕ → Type 0
Once f n = (i j : ℕ) → i < n → j < n → (f i).site ≡ (f j).site → i ≡ j

-- only sites below a room stand there
abbrev pub Below : {C : Type 0} → (ℕ → Entry C) → ℕ → ℕ → Type 0
Below f n room = (i : ℕ) → i < n → (f i).site < room

-- the place below a number at which a site stands, if it does
abbrev pub PlaceOf : {C : Type 0} → (ℕ → Entry C) → ℕ → ℕ → Option ℕ → Type 0
PlaceOf f n s None = (i : ℕ) → i < n → (f i).site ≢ s
PlaceOf f n s (Some i) = (i < n) × ((f i).site ≡ s)

-- the same sites stand at the places below a number, at the same costs, and each once
pub record Rearranged {C : Type 0} (f g : ℕ → Entry C) (n : ℕ) : Type 0 where
  pub once : Once g n
  pub same : (s : ℕ) → among g n s ≡ among f n s
