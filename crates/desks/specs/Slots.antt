-- What the slots of a desk hold.
use Rattle.std.specs.Prelude.{ℕ, ◌-◌, cond, List, None, Option, ◌==◌, nat_le, slice_index_or}
use Rattle.boards.specs.declared.hold.Hold.{Hold}

-- the hold in the slot of a circuit, if there is one; the slot of circuit 1 comes first
abbrev pub hand : List (Option Hold) → ℕ → Option Hold
hand slots c = cond (nat_le 1 c) (slice_index_or slots (c - 1) None) None

-- the slots with one circuit's replaced
abbrev pub with_slot : ℕ → Option Hold → (ℕ → Option Hold) → ℕ → Option Hold
with_slot circuit slot before c = cond (c == circuit) slot (before c)
