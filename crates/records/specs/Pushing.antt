-- What writing a record leaves, and a fault in words.
use Rattle.std.specs.Prelude.{◌≡◌, ℕ, ◌<◌, ◌≤◌, List, ◌++◌, length, codes, Ok, Err, Result}
use Rattle.records.specs.declared.writing.WriteFault.{WriteFault}
use Rattle.records.specs.declared.writing.WriteFault.TheVariants.{TooLong, Memory}
use Rattle.records.specs.Bytes.{record_bytes}

-- The bytes after a push are those before and then the record; a payload past the length field, and want of memory, leave the bytes as they were.
abbrev pub Pushed : List ℕ → List ℕ → ℕ → List ℕ → Result (Unit {0}) WriteFault → Type 0
Pushed before after kind payload (Ok done) = (length payload < 65536) × (after ≡ before ++ record_bytes kind payload)
Pushed before after kind payload (Err TooLong) = (65536 ≤ length payload) × (after ≡ before)
Pushed before after kind payload (Err Memory) = (length payload < 65536) × (after ≡ before)

-- Why a record is not written, in words.
abbrev pub write_fault_words : WriteFault → List ℕ
write_fault_words TooLong = codes "a payload is longer than 65535 bytes"
write_fault_words Memory = codes "memory is wanting"
