-- What bytes mean: the sheet that they write, or the first record that breaks a rule.
use Rattle.std.specs.Prelude.{◌≡◌, ℕ, ◌+◌, ◌≤◌, true, List, [], ◌∷◌, ◌++◌, length, Some}
use Rattle.std.specs.List.{flat_map, AllByRecursion}
use Rattle.networks.specs.declared.model.Link.{Link}
use Rattle.networks.specs.Meaning.{Net, all_sound}
use Rattle.sheet_format.specs.Items.{Named, header, name, link, bytes_of}
use Rattle.sheet_format.specs.Rules.{Rule, Fields, Before, unbegun, begun, header_sound, name_sound, broken}

-- The bytes of a sheet: its header's record, then one for each name, then one for each link.
abbrev pub written : Fields → List ℕ
written f = bytes_of (header f.sites f.count) ++ (flat_map (λ n. bytes_of (name n)) f.names ++ flat_map (λ l. bytes_of (link l)) f.links)

-- The network of a sheet.
abbrev pub network_of : Fields → Net
network_of f = record { sites = f.sites; links = f.links }

-- A name that a sheet may give: 1 to 32 bytes, within the limits.
pub record GoodName (sites : ℕ) (n : Named) : Type 0 where
  pub shortest : 1 ≤ length n.name
  pub longest : length n.name ≤ 32
  pub limits : name_sound sites n ≡ true

-- Names by strictly rising site, the first at `from` or above.
abbrev pub Rising : ℕ → List Named → Type 0
Rising from [] = Unit {0}
Rising from (n ∷ ns) = (from ≤ n.site) × Rising (n.site + 1) ns

-- A link that is lit and has no channel taken.
abbrev pub Unused : Link → Type 0
Unused l = (l.taken ≡ 0) × (l.lit ≡ true)

-- The fields of a lawful beginning of a sheet: every record is allowed, and no link is one too many.
pub record Beginning (f : Fields) : Type 0 where
  pub head : header_sound f.sites f.count ≡ true
  pub names : AllByRecursion (GoodName f.sites) f.names
  pub rising : Rising 0 f.names
  pub links : all_sound f.sites f.links ≡ true
  pub unused : AllByRecursion Unused f.links
  pub number : length f.links ≤ f.count

-- The fields of a lawful sheet: a lawful beginning with as many links as its header says.
pub record Lawful (f : Fields) : Type 0 where
  pub beginning : Beginning f
  pub complete : length f.links ≡ f.count

-- The bytes of the records that came before.
abbrev pub written_before : Before → List ℕ
written_before unbegun = []
written_before (begun f) = written f

-- What came before is lawful.
abbrev pub LawfulBefore : Before → Type 0
LawfulBefore unbegun = Unit {0}
LawfulBefore (begun f) = Beginning f

-- Bytes that are no sheet: after lawful records, which end at a place, the rest breaks a rule first.
pub record Fails (bytes : List ℕ) (rule : Rule) (place : ℕ) : Type 0 where
  pub before : Before
  pub rest : List ℕ
  pub lawful : LawfulBefore before
  pub split : bytes ≡ written_before before ++ rest
  pub at_place : place ≡ length (written_before before)
  pub breaks : broken before rest ≡ Some rule

-- What reading bytes comes to: the fields of a sheet, or a broken rule and its place.
pub data Outcome : Type 0 where
  sheet : Fields → Outcome
  fault : Rule → ℕ → Outcome

-- What bytes mean.
abbrev pub Means : List ℕ → Outcome → Type 0
Means bytes (sheet f) = Lawful f × (bytes ≡ written f)
Means bytes (fault rule place) = Fails bytes rule place
