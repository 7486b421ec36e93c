-- What is proved of the format.
use Rattle.std.specs.Prelude.{◌≡◌, ℕ, ◌<◌, List, slice_index}
use Rattle.sheet_format.specs.Rules.{Fields}
use Rattle.sheet_format.specs.Sheets.{written, Lawful, Outcome, sheet, Means}

-- The same bytes mean one thing.
abbrev pub SingleValued : Type 0
SingleValued = (bytes : List ℕ) (x y : Outcome) → Means bytes x → Means bytes y → x ≡ y

-- A lawful sheet's fields, written as bytes, mean those fields and nothing else.
abbrev pub WrittenMeans : Type 0
WrittenMeans = (f : Fields) → Lawful f → Means (written f) (sheet f) × ((x : Outcome) → Means (written f) x → x ≡ sheet f)

-- Bytes that mean a sheet are the writing of its fields.
abbrev pub MeansWritten : Type 0
MeansWritten = (bytes : List ℕ) (f : Fields) → Means bytes (sheet f) → bytes ≡ written f

-- All bytes mean something: a sheet, or a fault at a place.
abbrev pub Total : Type 0
Total = (bytes : List ℕ) → ((i : ℕ) → slice_index bytes i < 256) → (x : Outcome) × Means bytes x
