-- The network that owns its links: what it means, how it begins and grows.
use Rattle.std.specs.Prelude.{◌≡◌, ℕ, Bool, true, false, ◌&&◌, [], ◌∷◌, ◌++◌, length, Ok, Err, vec_items, Result, nat_le, nat_lt}
use Rattle.networks.specs.declared.model.Link.{Link}
use Rattle.networks.specs.declared.owned.OwnedNetwork.{OwnedNetwork}
use Rattle.networks.specs.declared.building.BuildRefusal.{BuildRefusal}
use Rattle.networks.specs.declared.building.BuildRefusal.TheVariants.{OutsideLimits, Memory}
use Rattle.networks.specs.Meaning.{Net, link_sound}

-- its sites and its links, as they stand in it
abbrev pub owned_meaning : OwnedNetwork → Net
owned_meaning n = record { sites = n.sites; links = vec_items n.links }

-- 2 to 256 sites begin a network without links; any other number is refused
abbrev pub Begun : ℕ → Result OwnedNetwork BuildRefusal → Type 0
Begun sites (Ok n) = ((nat_le 2 sites && nat_le sites 256) ≡ true) × (owned_meaning n ≡ record { sites = sites; links = [] })
Begun sites (Err e) = ((nat_le 2 sites && nat_le sites 256) ≡ false) × (e ≡ OutsideLimits)

-- there is room for one link more, and it is sound
abbrev pub has_room : Net → Link → Bool
has_room n l = nat_lt (length n.links) 2048 && link_sound n.sites l

-- the network with one link more at the end
abbrev pub extended : Net → Link → Net
extended n l = record { sites = n.sites; links = n.links ++ l ∷ [] }

-- a link is added exactly where there is room, it is sound and there is memory; else nothing alters
abbrev pub Added : Net → Link → Result (Unit {0}) BuildRefusal → Net → Type 0
Added n l (Ok x) after = (has_room n l ≡ true) × (after ≡ extended n l)
Added n l (Err OutsideLimits) after = (has_room n l ≡ false) × (after ≡ n)
Added n l (Err Memory) after = (has_room n l ≡ true) × (after ≡ n)
