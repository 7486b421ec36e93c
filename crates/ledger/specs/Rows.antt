-- What the rows of the circuits are, and what is answered for them.
use Rattle.std.specs.Prelude.{ℕ, zero, suc, ◌+◌, ◌-◌, Bool, true, false, cond, ◌==◌, nat_lt, Ok, Err, Result, slice_index_or}
use Rattle.certificates.specs.Format.{Fields}
use Rattle.certificates.specs.Limits.{circuit_sound}
use Rattle.certificates.specs.Calls.{held as fields_held}
use Rattle.ledger.specs.declared.refusing.LedgerRefusal.{LedgerRefusal}
use Rattle.ledger.specs.declared.refusing.LedgerRefusal.TheVariants.{NotCircuit, WrongRow, EightHeld}
use Rattle.ledger.specs.declared.row.Row.{Row}
use Rattle.ledger.specs.declared.row.Row.TheVariants.{Vacant, Held, Confirmed}
use Rattle.ledger.specs.declared.rows.Rows.{Rows}

-- what stands in a circuit's row: nothing, or a certificate's fields, held or confirmed
pub data Entry : Type 0 where
  vacant : Entry
  held : Fields → Entry
  confirmed : Fields → Entry

-- the entry that a row is
abbrev pub entry_of : Row → Entry
entry_of Vacant = vacant
entry_of (Held certificate) = held (fields_held certificate)
entry_of (Confirmed certificate) = confirmed (fields_held certificate)

-- the entries by circuit: circuits are numbered 1 to 32, and any other number has none
abbrev pub entries : Rows → ℕ → Entry
entries rows c = cond (circuit_sound c) (entry_of (slice_index_or rows.list (c - 1) Vacant)) vacant

-- a circuit's entry replaced
abbrev pub entered : ℕ → Entry → (ℕ → Entry) → ℕ → Entry
entered c e rows d = cond (d == c) e (rows d)

-- whether an entry is vacant
abbrev pub is_vacant : Entry → Bool
is_vacant vacant = true
is_vacant (held f) = false
is_vacant (confirmed f) = false

-- whether an entry is held
abbrev pub is_held : Entry → Bool
is_held vacant = false
is_held (held f) = true
is_held (confirmed f) = false

-- whether an entry is confirmed
abbrev pub is_confirmed : Entry → Bool
is_confirmed vacant = false
is_confirmed (held f) = false
is_confirmed (confirmed f) = true

-- a held entry confirmed; any other as it is
abbrev pub confirmed_entry : Entry → Entry
confirmed_entry vacant = vacant
confirmed_entry (held f) = confirmed f
confirmed_entry (confirmed f) = confirmed f

-- the number of an entry's circuit, if it has one, is c
abbrev pub is_numbered : Entry → ℕ → Bool
is_numbered vacant c = true
is_numbered (held f) c = f.circuit == c
is_numbered (confirmed f) c = f.circuit == c

-- a number for each circuit added up, for the circuits 1 to n
-- No abbrev, like the next: the sum for all circuits would stand in each goal with its 32 terms written out.
unfoldable pub summed : (ℕ → ℕ) → ℕ → ℕ
summed f zero = 0
summed f (suc c) = summed f c + f (suc c)

-- for all circuits
unfoldable pub over_circuits : (ℕ → ℕ) → ℕ
over_circuits f = summed f 32

-- how many rows are held
abbrev pub held_rows : (ℕ → Entry) → ℕ
held_rows rows = over_circuits (λ c. cond (is_held (rows c)) 1 0)

-- whether a circuit can be held: it is a circuit, its row is vacant, and fewer than eight rows are held
abbrev pub hold_answer : (ℕ → Entry) → ℕ → Result (Unit {0}) LedgerRefusal
hold_answer rows c = cond (circuit_sound c) (cond (is_vacant (rows c)) (cond (nat_lt (held_rows rows) 8) (Ok tt) (Err EightHeld)) (Err WrongRow)) (Err NotCircuit)

-- whether a circuit can be confirmed: its row is held
abbrev pub confirm_answer : (ℕ → Entry) → ℕ → Result (Unit {0}) LedgerRefusal
confirm_answer rows c = cond (is_held (rows c)) (Ok tt) (Err WrongRow)
