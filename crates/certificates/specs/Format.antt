-- A certificate as bytes: one record of kind 16.
use Rattle.std.specs.Prelude.{ℕ, zero, suc, ◌+◌, ◌*◌, Bool, ◌&&◌, List, [], ◌∷◌, ◌++◌, length, drop, ◌==◌, nat_le}
use Rattle.std.specs.List.{flat_map}
use Rattle.records.specs.Bytes.{le16, le32, u16_at, u32_at, record_bytes, kind_of, payload_of, rest_of}

-- The fields of a certificate: the circuit, its two sites, its metres and pole metres, and the links of its two routes.
pub record Fields : Type 0 where
  pub circuit : ℕ
  pub root : ℕ
  pub target : ℕ
  pub metres : ℕ
  pub poles : ℕ
  pub one : List ℕ
  pub two : List ℕ

-- The bytes of a route: two for each link.
abbrev pub route_bytes : List ℕ → List ℕ
route_bytes route = flat_map le16 route

-- The payload: circuit, root, target, metres, pole metres, the two counts, the two routes.
abbrev pub payload : Fields → List ℕ
payload f = le16 f.circuit ++ (le16 f.root ++ (le16 f.target ++ (le32 f.metres ++ (le32 f.poles ++ (le16 (length f.one) ++ (le16 (length f.two) ++ (route_bytes f.one ++ route_bytes f.two)))))))

-- The bytes of a certificate.
abbrev pub certificate_bytes : Fields → List ℕ
certificate_bytes f = record_bytes 16 (payload f)

-- The number of links that a payload gives its first route.
abbrev pub count_one : List ℕ → ℕ
count_one p = u16_at p 14

-- The number of links that a payload gives its second route.
abbrev pub count_two : List ℕ → ℕ
count_two p = u16_at p 16

-- The first so many links that bytes write.
abbrev pub links_in : ℕ → List ℕ → List ℕ
links_in zero bytes = []
links_in (suc n) bytes = u16_at bytes 0 ∷ links_in n (drop 2 bytes)

-- The fields that a payload writes.
abbrev pub fields_in : List ℕ → Fields
fields_in p = record { circuit = u16_at p 0; root = u16_at p 2; target = u16_at p 4; metres = u32_at p 6; poles = u32_at p 10; one = links_in (count_one p) (drop 18 p); two = links_in (count_two p) (drop (18 + 2 * count_one p) p) }

-- A payload of the right length: 18 bytes, and two for each link that it counts.
abbrev pub right_length : List ℕ → Bool
right_length p = nat_le 18 (length p) && length p == 18 + 2 * (count_one p + count_two p)

-- A record of the right shape: of kind 16, with a payload of the right length, and no byte after it.
abbrev pub right_shape : List ℕ → Bool
right_shape bytes = kind_of bytes == 16 && (right_length (payload_of bytes) && length (rest_of bytes) == 0)
