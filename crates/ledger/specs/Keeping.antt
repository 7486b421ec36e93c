-- What the calls of a ledger give.
use Rattle.std.specs.Prelude.{◌≡◌, ℕ, true, false, Ok, Err, Result}
use Rattle.std.specs.Borrow.{Bor}
use Rattle.certificates.specs.Limits.{circuit_sound}
use Rattle.certificates.specs.Calls.{held as fields_held}
use Rattle.certificates.specs.declared.certificate.Certificate.{Certificate}
use Rattle.ledger.specs.Rows.{Entry, vacant, held, confirmed, entry_of, entries, entered, is_held, is_confirmed}
use Rattle.ledger.specs.declared.row.Row.{Row}
use Rattle.ledger.specs.declared.ledger.Ledger.{Ledger}
use Rattle.ledger.specs.declared.refusing.LedgerRefusal.{LedgerRefusal}
use Rattle.ledger.specs.declared.refusing.LedgerRefusal.TheVariants.{NotCircuit, WrongRow, EightHeld}

-- The entries of a ledger by circuit.
abbrev pub rows_in : Ledger → ℕ → Entry
rows_in ledger = entries ledger.rows

-- A circuit's row is lent; a number that is no circuit's is refused.
abbrev pub ReadsRow : (ℕ → Entry) → ℕ → Result (Bor Row) LedgerRefusal → Type 0
ReadsRow rows c (Ok row) = (circuit_sound c ≡ true) × (entry_of row.now ≡ rows c)
ReadsRow rows c (Err NotCircuit) = circuit_sound c ≡ false
ReadsRow rows c (Err WrongRow) = ⊥
ReadsRow rows c (Err EightHeld) = ⊥

-- A confirmed circuit's certificate is lent, and has the circuit's number; a number that is no circuit's is refused, and then a row that is not confirmed.
abbrev pub ReadsConfirmed : (ℕ → Entry) → ℕ → Result (Bor Certificate) LedgerRefusal → Type 0
ReadsConfirmed rows c (Ok certificate) = (rows c ≡ confirmed (fields_held certificate.now)) × ((fields_held certificate.now).circuit ≡ c)
ReadsConfirmed rows c (Err NotCircuit) = circuit_sound c ≡ false
ReadsConfirmed rows c (Err WrongRow) = (circuit_sound c ≡ true) × (is_confirmed (rows c) ≡ false)
ReadsConfirmed rows c (Err EightHeld) = ⊥

-- A held circuit's certificate is handed out and its row is vacant; a row that is not held is refused, and no row changes.
abbrev pub Withdrew : (ℕ → Entry) → ℕ → Result Certificate LedgerRefusal → (ℕ → Entry) → Type 0
Withdrew rows c (Ok certificate) after = (rows c ≡ held (fields_held certificate)) × ((d : ℕ) → after d ≡ entered c vacant rows d)
Withdrew rows c (Err NotCircuit) after = ⊥
Withdrew rows c (Err WrongRow) after = (is_held (rows c) ≡ false) × ((d : ℕ) → after d ≡ rows d)
Withdrew rows c (Err EightHeld) after = ⊥

-- A confirmed circuit's certificate is handed out and its row is vacant; a number that is no circuit's is refused, and then a row that is not confirmed, and no row changes.
abbrev pub Released : (ℕ → Entry) → ℕ → Result Certificate LedgerRefusal → (ℕ → Entry) → Type 0
Released rows c (Ok certificate) after = (rows c ≡ confirmed (fields_held certificate)) × ((d : ℕ) → after d ≡ entered c vacant rows d)
Released rows c (Err NotCircuit) after = (circuit_sound c ≡ false) × ((d : ℕ) → after d ≡ rows d)
Released rows c (Err WrongRow) after = (circuit_sound c ≡ true) × ((is_confirmed (rows c) ≡ false) × ((d : ℕ) → after d ≡ rows d))
Released rows c (Err EightHeld) after = ⊥
