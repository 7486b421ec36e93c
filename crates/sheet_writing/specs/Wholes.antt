-- Writing a whole sheet.
use Rattle.std.specs.Prelude.{◌≡◌, ℕ, ◌+◌, Bool, true, false, ◌||◌, List, [], ◌∷◌, length, Ok, Err, vec_items, Result, Vec, nat_le, nat_lt}
use Rattle.std.specs.declared.alloc.Global.{Global}
use Rattle.networks.specs.declared.model.Link.{Link}
use Rattle.records.specs.declared.writing.WriteFault.{WriteFault}
use Rattle.records.specs.declared.writing.WriteFault.TheVariants.{TooLong, Memory}
use Rattle.sheet_format.specs.Items.{Named}
use Rattle.sheet_format.specs.Rules.{Fields}
use Rattle.sheet_format.specs.Sheets.{written}
use Rattle.sheet_writing.specs.declared.SiteName.{SiteName}

-- A site and its name.
abbrev pub named : SiteName → Named
named n = record { site = n.site; name = n.name.now }

-- Whether one of the names is too long for a record's length.
abbrev pub long_name : List Named → Bool
long_name [] = false
long_name (n ∷ ns) = nat_le 65536 (2 + length n.name) || long_name ns

-- The fields of a sheet whose header counts its links.
abbrev pub whole_fields : ℕ → List Named → List Link → Fields
whole_fields sites names links = record { sites = sites; count = length links; names = names; links = links }

-- Whether the links are too many for the header's two bytes, or a name is too long.
abbrev pub overlong : Fields → Bool
overlong f = nat_lt 65535 (length f.links) || long_name f.names

-- The bytes are the writing of the fields, unless there are too many links or too long a name, or,
-- where neither is so, memory is wanting.
abbrev pub Wrote : Fields → Result (Vec ℕ Global) WriteFault → Type 0
Wrote f (Ok bytes) = (overlong f ≡ false) × (vec_items bytes ≡ written f)
Wrote f (Err TooLong) = overlong f ≡ true
Wrote f (Err Memory) = overlong f ≡ false
