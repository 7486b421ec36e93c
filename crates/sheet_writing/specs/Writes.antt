-- What writing a record of a sheet leaves.
use Rattle.std.specs.Prelude.{◌≡◌, ℕ, ◌<◌, ◌≤◌, List, ◌++◌, Ok, Err, Result}
use Rattle.records.specs.declared.writing.WriteFault.{WriteFault}
use Rattle.records.specs.declared.writing.WriteFault.TheVariants.{TooLong, Memory}
use Rattle.sheet_format.specs.Items.{Item, bytes_of}

-- The bytes after are those before and then the record's; a payload too long for its length field, and want of memory, leave them as they were.
abbrev pub Appended : List ℕ → List ℕ → Item → ℕ → Result (Unit {0}) WriteFault → Type 0
Appended before after x size (Ok done) = (size < 65536) × (after ≡ before ++ bytes_of x)
Appended before after x size (Err TooLong) = (65536 ≤ size) × (after ≡ before)
Appended before after x size (Err Memory) = (size < 65536) × (after ≡ before)
