-- Records as bytes: little-endian numbers, and a record made of a length, a kind and a payload.
use Rattle.std.specs.Prelude.{◌≡◌, ℕ, ◌+◌, ◌*◌, ◌/◌, ◌%◌, Bool, false, ◌||◌, List, [], ◌∷◌, ◌++◌, length, take, drop, nat_lt, slice_index}

-- The two bytes of a number, the low byte first.
abbrev pub le16 : ℕ → List ℕ
le16 n = (n % 256) ∷ (n / 256 % 256) ∷ []

-- The four bytes of a number, the low byte first.
abbrev pub le32 : ℕ → List ℕ
le32 n = (n % 256) ∷ (n / 256 % 256) ∷ (n / 65536 % 256) ∷ (n / 16777216 % 256) ∷ []

-- The number that the two bytes at a place write.
abbrev pub u16_at : List ℕ → ℕ → ℕ
u16_at bytes i = slice_index bytes i + slice_index bytes (i + 1) * 256

-- The number that the four bytes at a place write.
abbrev pub u32_at : List ℕ → ℕ → ℕ
u32_at bytes i = slice_index bytes i + slice_index bytes (i + 1) * 256 + slice_index bytes (i + 2) * 65536 + slice_index bytes (i + 3) * 16777216

-- A record: the length of its payload, its kind, its payload.
abbrev pub record_bytes : ℕ → List ℕ → List ℕ
record_bytes kind payload = le16 (length payload) ++ (le16 kind ++ payload)

-- Bytes that begin with no whole record: fewer than a head, or fewer than their head asks for.
abbrev pub cut_short : List ℕ → Bool
cut_short bytes = nat_lt (length bytes) 4 || nat_lt (length bytes) (4 + u16_at bytes 0)

-- The kind of the record that bytes begin with.
abbrev pub kind_of : List ℕ → ℕ
kind_of bytes = u16_at bytes 2

-- The payload of the record that bytes begin with.
abbrev pub payload_of : List ℕ → List ℕ
payload_of bytes = take (u16_at bytes 0) (drop 4 bytes)

-- The bytes after the record that bytes begin with.
abbrev pub rest_of : List ℕ → List ℕ
rest_of bytes = drop (4 + u16_at bytes 0) bytes

-- The first record of some bytes, cut off them: they are its writing and then the rest.
pub record First (bytes : List ℕ) (kind : ℕ) (payload rest : List ℕ) : Type 0 where
  pub whole : cut_short bytes ≡ false
  pub kind_is : kind ≡ kind_of bytes
  pub payload_is : payload ≡ payload_of bytes
  pub rest_is : rest ≡ rest_of bytes
  pub written : bytes ≡ record_bytes kind payload ++ rest
