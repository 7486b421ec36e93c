-- The records of a sheet, and the bytes that write them.
use Rattle.std.specs.Prelude.{ℕ, Bool, true, cond, ◌&&◌, ◌||◌, List, ◌++◌, drop, ◌==◌, nat_le}
use Rattle.networks.specs.declared.model.Link.{Link}
use Rattle.networks.specs.Meaning.{lit_link}
use Rattle.records.specs.Bytes.{le16, le32, u16_at, u32_at, record_bytes}

-- A site and its name, as bytes.
pub record Named : Type 0 where
  pub site : ℕ
  pub name : List ℕ

-- A record of a sheet: the header with the number of sites and of links, a site's name, a link.
pub data Item : Type 0 where
  header : ℕ → ℕ → Item
  name : Named → Item
  link : Link → Item

-- The bytes of a record: kind 1 is the header, kind 2 a name, kind 3 a link.
abbrev pub bytes_of : Item → List ℕ
bytes_of (header sites links) = record_bytes 1 (le16 sites ++ le16 links)
bytes_of (name n) = record_bytes 2 (le16 n.site ++ n.name)
bytes_of (link l) = record_bytes 3 (le16 l.start ++ (le16 l.end ++ (le32 l.metres ++ (le32 l.poles ++ le16 l.channels))))

-- Whether a payload of so many bytes fits the kind: 4 bytes for a header, 3 to 34 for a name, 14 for a link.
abbrev pub shaped : ℕ → ℕ → Bool
shaped kind size = (kind == 1 && size == 4) || ((kind == 2 && (nat_le 3 size && nat_le size 34)) || (kind == 3 && size == 14))

-- The record that a payload of a fitting size writes.
abbrev pub item_of : ℕ → List ℕ → Item
item_of kind payload =
    cond (kind == 1) (header (u16_at payload 0) (u16_at payload 2))
    (cond (kind == 2) (name (record { site = u16_at payload 0; name = drop 2 payload }))
    (link (lit_link (u16_at payload 0) (u16_at payload 2) (u32_at payload 4) (u32_at payload 8) (u16_at payload 12))))
