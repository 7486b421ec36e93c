-- The names of a sheet, and the name of a site.
use Rattle.std.specs.Prelude.{ℕ, cond, List, [], ◌∷◌, map, Some, None, Option, ◌==◌}
use Rattle.std.specs.Borrow.{Bor}
use Rattle.sheet_format.specs.Items.{Named}
use Rattle.sheets.specs.declared.names.Names.{Names}

-- A site and its name, as they stand in the table.
abbrev pub entry_of : ℕ × Bor (List ℕ) → Named
entry_of e = record { site = e.0; name = e.1.now }

-- The names, in the order of the sheet.
abbrev pub named : Names → List Named
named n = map entry_of n.by_site.items

-- The name of a site, where the sheet gives one.
abbrev pub name_of : List Named → ℕ → Option (List ℕ)
name_of [] site = None
name_of (n ∷ ns) site = cond (n.site == site) (Some n.name) (name_of ns site)
