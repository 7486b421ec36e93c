-- What tables and marks hold.
use Rattle.std.specs.Prelude.{◌≡◌, ℕ, ◌<◌, Bool, List, Some, Option, slice_index_or}
use Rattle.least_pairs.specs.Runs.{Label, has}

-- a table tells a part of the labels: where a site below a number has a label, the site's entry is that part of it
abbrev pub Tells : {C : Type 0} → ℕ → List ℕ → (Label C → ℕ) → (ℕ → Option (Label C)) → Type 0
Tells {C = C} n table part labels = (w : ℕ) → w < n → (l : Label C) → labels w ≡ Some l → slice_index_or table w 65535 ≡ part l

-- the marked sites are those of a list
abbrev pub Marked : (ℕ → Bool) → List ℕ → Type 0
Marked set ms = (w : ℕ) → set w ≡ has w ms
