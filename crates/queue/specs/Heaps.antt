-- The order in which the entries of a heap stand.
use Rattle.std.specs.Prelude.{◌≡◌, ℕ, ◌-◌, ◌/◌, ◌<◌, List, length, false, cond, Some, None, Option, ◌==◌, ◌≢◌}
use Rattle.costs.specs.Costs.{Ops}
use Rattle.queue.specs.declared.entries.Entry.{Entry}
use Rattle.queue.specs.Entries.{entry_at, before, among, Once, Rearranged}

-- the place above a place
abbrev pub above : ℕ → ℕ
above i = (i - 1) / 2

-- the entry at a place does not come before that above it
abbrev pub Keeps : {C : Type 0} → Ops C → (ℕ → Entry C) → ℕ → Type 0
Keeps k f i = before k (f i) (f (above i)) ≡ false

-- no entry below a number comes before that above it
abbrev pub Heap : {C : Type 0} → Ops C → (ℕ → Entry C) → ℕ → Type 0
Heap k f n = (i : ℕ) → 0 < i → i < n → Keeps k f i

-- only the entry at one place may come before that above it
pub record HeapAbove {C : Type 0} (k : Ops C) (f : ℕ → Entry C) (n at : ℕ) : Type 0 where
  pub others : (i : ℕ) → 0 < i → i < n → (i ≢ at) → Keeps k f i
  pub across : (i : ℕ) → 0 < i → i < n → above i ≡ at → 0 < at → before k (f i) (f (above at)) ≡ false

-- only entries right below one place may come before the one there
pub record HeapBelow {C : Type 0} (k : Ops C) (f : ℕ → Entry C) (n at : ℕ) : Type 0 where
  pub others : (i : ℕ) → 0 < i → i < n → (above i ≢ at) → Keeps k f i
  pub across : (i : ℕ) → 0 < i → i < n → above i ≡ at → 0 < at → before k (f i) (f (above at)) ≡ false

-- of the places right below a place the one whose entry no other there comes before, if there are any
abbrev pub LeastBelow : {C : Type 0} → Ops C → (ℕ → Entry C) → ℕ → ℕ → Option ℕ → Type 0
LeastBelow k f n at None = (i : ℕ) → 0 < i → i < n → above i ≢ at
LeastBelow k f n at (Some j) = (0 < j) × (j < n) × (above j ≡ at) × ((i : ℕ) → 0 < i → i < n → above i ≡ at → before k (f i) (f j) ≡ false)

-- the entries of a table: each site stands once, and no entry comes before that above it
pub record IsHeap {C : Type 0} (k : Ops C) (xs : List (Entry C)) : Type 0 where
  pub once : Once (entry_at k xs) (length xs)
  pub order : Heap k (entry_at k xs) (length xs)

-- the same entries stand in two tables, in the second as a heap
pub record Sifted {C : Type 0} (k : Ops C) (xs ys : List (Entry C)) : Type 0 where
  pub held : Rearranged (entry_at k xs) (entry_at k ys) (length xs)
  pub order : Heap k (entry_at k ys) (length xs)

-- after a change of what is held of one site the entries are a heap with each site once
pub record Changed {C : Type 0} (k : Ops C) (xs : List (Entry C)) (s : ℕ) (o : Option C) (ys : List (Entry C)) : Type 0 where
  pub heap : IsHeap k ys
  pub held : (w : ℕ) → among (entry_at k ys) (length ys) w ≡ cond (w == s) o (among (entry_at k xs) (length xs) w)

-- an entry is held, and no other that is held comes before it
pub record First {C : Type 0} (k : Ops C) (xs : List (Entry C)) (x : Entry C) : Type 0 where
  pub held : among (entry_at k xs) (length xs) x.site ≡ Some x.cost
  pub least : (w : ℕ) (c : C) → among (entry_at k xs) (length xs) w ≡ Some c → before k (record { cost = c; site = w }) x ≡ false
