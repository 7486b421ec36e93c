-- What is gathered of a sheet's records.
use Rattle.std.specs.Prelude.{◌≡◌, ℕ, ◌+◌, ◌≤◌, true, List, [], ◌∷◌, ◌++◌, length, IfOk, Result}
use Rattle.std.specs.declared.alloc.AllocError.{AllocError}
use Rattle.networks.specs.Owning.{owned_meaning, has_room}
use Rattle.sheet_format.specs.Items.{Item, header, name, link}
use Rattle.sheet_format.specs.Rules.{Fields, next_site}
use Rattle.sheet_format.specs.Sheets.{network_of, sheet, Means}
use Rattle.sheets.specs.declared.gathering.Sheet.{Sheet}
use Rattle.sheets.specs.Naming.{named}

-- The fields of a sheet that was read: its header counts its links.
abbrev pub fields_of : Sheet → Fields
fields_of s = record {
  sites = (owned_meaning s.network).sites;
  count = length (owned_meaning s.network).links;
  names = named s.names;
  links = (owned_meaning s.network).links;
}

-- Bytes that are a sheet of so many sites.
abbrev pub IsSheet : List ℕ → ℕ → Type 0
IsSheet bytes sites = (f : Fields) × (Means bytes (sheet f) × (f.sites ≡ sites))

-- A record that can be stored behind the others: a name of a higher site, a sound link for which
-- there is room.
abbrev pub Storable : Fields → Item → Type 0
Storable f (header sites links) = Unit {0}
Storable f (name n) = next_site 0 f.names ≤ n.site
Storable f (link l) = has_room (network_of f) l ≡ true

-- The fields with a name or a link more; a header's sites are in them from the start.
abbrev pub grown : Fields → Item → Fields
grown f (header sites links) = f
grown f (name n) = record {
  sites = f.sites;
  count = f.count;
  names = f.names ++ n ∷ [];
  links = f.links;
}
grown f (link l) = record {
  sites = f.sites;
  count = f.count + 1;
  names = f.names;
  links = f.links ++ l ∷ [];
}

-- What is gathered are the fields of the sheet that the bytes are.
abbrev pub Gathers : List ℕ → Result Sheet AllocError → Type 0
Gathers bytes result = IfOk result (λ s. Means bytes (sheet (fields_of s)))
