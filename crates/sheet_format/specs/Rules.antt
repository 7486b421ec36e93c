-- The rules of a sheet, and which of them the bytes after some records break first.
use Rattle.std.specs.Prelude.{ℕ, ◌+◌, Bool, true, false, cond, ◌&&◌, List, [], ◌∷◌, ◌++◌, length, Some, None, Option, ◌==◌, nat_le, nat_lt}
use Rattle.networks.specs.declared.model.Link.{Link}
use Rattle.networks.specs.Meaning.{link_sound}
use Rattle.records.specs.Bytes.{cut_short, kind_of, payload_of}
use Rattle.sheet_format.specs.Items.{Named, Item, header, name, link, shaped, item_of}

-- The five rules, in the order in which they are checked.
pub data Rule : Type 0 where
  whole_record : Rule
  right_shape : Rule
  right_order : Rule
  within_limits : Rule
  link_count : Rule

-- What the records read so far say: the header's two numbers, the names and the links, in order.
pub record Fields : Type 0 where
  pub sites : ℕ
  pub count : ℕ
  pub names : List Named
  pub links : List Link

-- What came before: no record yet, or a header and what follows it.
pub data Before : Type 0 where
  unbegun : Before
  begun : Fields → Before

-- The header's limits: 2 to 256 sites, at most 2,048 links.
abbrev pub header_sound : ℕ → ℕ → Bool
header_sound sites count = (nat_le 2 sites && nat_le sites 256) && nat_le count 2048

-- The bytes of a name: 32 to 126 each.
abbrev pub printable : List ℕ → Bool
printable [] = true
printable (b ∷ bs) = (nat_le 32 b && nat_le b 126) && printable bs

-- A name's limits: one of the sites, and bytes that can be printed.
abbrev pub name_sound : ℕ → Named → Bool
name_sound sites n = nat_lt n.site sites && printable n.name

-- The least site that may be named after some names: `from`, or one above the last.
abbrev pub next_site : ℕ → List Named → ℕ
next_site from [] = from
next_site from (n ∷ ns) = next_site (n.site + 1) ns

-- How many sites there are, by what came before.
abbrev pub sites_of : Before → ℕ
sites_of unbegun = 0
sites_of (begun f) = f.sites

-- The order: the header first and once, then names by rising site, then links.
abbrev pub in_order : Before → Item → Bool
in_order unbegun (header sites links) = true
in_order unbegun (name n) = false
in_order unbegun (link l) = false
in_order (begun f) (header sites links) = false
in_order (begun f) (name n) = length f.links == 0 && nat_le (next_site 0 f.names) n.site
in_order (begun f) (link l) = true

-- The limits of a record's numbers, ends and bytes.
abbrev pub within : Before → Item → Bool
within b (header sites links) = header_sound sites links
within b (name n) = name_sound (sites_of b) n
within b (link l) = link_sound (sites_of b) l

-- The count: no link more than the header says.
abbrev pub counted : Before → Item → Bool
counted unbegun x = true
counted (begun f) (header sites links) = true
counted (begun f) (name n) = true
counted (begun f) (link l) = nat_lt (length f.links) f.count

-- Which rule a whole record breaks first after what came before: its order, then its limits, then the count.
abbrev pub refused : Before → Item → Option Rule
refused b x = cond (in_order b x) (cond (within b x) (cond (counted b x) None (Some link_count)) (Some within_limits)) (Some right_order)

-- Which rule is broken where no byte is left: a sheet has a header, and as many links as it says.
abbrev pub unfinished : Before → Option Rule
unfinished unbegun = Some whole_record
unfinished (begun f) = cond (length f.links == f.count) None (Some link_count)

-- Which rule the bytes break first after what came before: a whole record, of the right shape, then the record's own rules.
abbrev pub broken : Before → List ℕ → Option Rule
broken b rest =
    cond (length rest == 0) (unfinished b)
    (cond (cut_short rest) (Some whole_record)
    (cond (shaped (kind_of rest) (length (payload_of rest))) (refused b (item_of (kind_of rest) (payload_of rest))) (Some right_shape)))

-- What came before, with one record more that breaks no rule.
abbrev pub added : Before → Item → Before
added b (header sites links) = begun (record { sites = sites; count = links; names = []; links = [] })
added unbegun (name n) = unbegun
added unbegun (link l) = unbegun
added (begun f) (name n) = begun (record { sites = f.sites; count = f.count; names = f.names ++ n ∷ []; links = f.links })
added (begun f) (link l) = begun (record { sites = f.sites; count = f.count; names = f.names; links = f.links ++ l ∷ [] })
