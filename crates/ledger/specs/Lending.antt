-- What is lent and handed out of rows.
use Rattle.std.specs.Prelude.{◌≡◌, ℕ, true, false, Some, None, Option}
use Rattle.std.specs.Borrow.{Bor}
use Rattle.certificates.specs.Format.{Fields}
use Rattle.certificates.specs.Limits.{circuit_sound}
use Rattle.certificates.specs.Calls.{held as fields_held}
use Rattle.certificates.specs.declared.certificate.Certificate.{Certificate}
use Rattle.ledger.specs.Rows.{Entry, vacant, held, confirmed, entry_of}
use Rattle.ledger.specs.declared.row.Row.{Row}

-- The fields that stand in an entry, if it is not vacant.
abbrev pub standing : Entry → Option Fields
standing vacant = None
standing (held f) = Some f
standing (confirmed f) = Some f

-- The certificate that stands in an entry is lent; of a vacant one there is none.
abbrev pub Lent : Entry → Option (Bor Certificate) → Type 0
Lent entry (Some certificate) = standing entry ≡ Some (fields_held certificate.now)
Lent entry None = entry ≡ vacant

-- The certificate that stood in an entry is handed out; of a vacant one there is none.
abbrev pub HandedOut : Entry → Option Certificate → Type 0
HandedOut entry (Some certificate) = standing entry ≡ Some (fields_held certificate)
HandedOut entry None = entry ≡ vacant

-- The row of a circuit, which a number that is no circuit's does not have.
abbrev pub IsRow : (ℕ → Entry) → ℕ → Option (Bor Row) → Type 0
IsRow rows c (Some row) = (circuit_sound c ≡ true) × (entry_of row.now ≡ rows c)
IsRow rows c None = circuit_sound c ≡ false
