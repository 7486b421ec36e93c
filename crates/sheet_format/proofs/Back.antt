-- A record of a sheet that was written is read again.
use Rattle.std.proofs.Common.{◌≡◌, ℕ, ◌+◌, ◌<◌, ◌≤◌, true, false, List, ◌++◌, length, sym, refl, ap, ◌∙◌, arith}
use Rattle.std.proofs.lemmas.Bool.{le-leb, and_from, or_left}
use Rattle.records.specs.Bytes.{le16, le32, u16_at, record_bytes, cut_short, kind_of, payload_of, rest_of}
use Rattle.records.proofs.Numbers.{of_le16, of_le32}
use Rattle.records.proofs.Round.{length_again, whole_again, kind_again, payload_again, rest_again}
use Rattle.sheet_format.specs.Items.{Item, header, name, link, bytes_of, shaped, item_of}
use Rattle.sheet_format.specs.Sheets.{Unused}

-- a record whose numbers fit their bytes
abbrev pub Fitting : Item → Type 0
Fitting (header sites links) = (sites < 65536) × (links < 65536)
Fitting (name n) = (n.site < 65536) × (1 ≤ length n.name) × (length n.name ≤ 32)
Fitting (link l) = (l.start < 65536) × (l.end < 65536) × (l.metres < 4294967296) × (l.poles < 4294967296) × (l.channels < 65536) × Unused l

-- what the first bytes give back
pub record ReadsBack (x : Item) (bytes more : List ℕ) : Type 0 where
  pub some : 0 < length bytes
  pub whole : cut_short bytes ≡ false
  pub shape : shaped (kind_of bytes) (length (payload_of bytes)) ≡ true
  pub item : item_of (kind_of bytes) (payload_of bytes) ≡ x
  pub rest : rest_of bytes ≡ more
  pub size : 4 + u16_at bytes 0 ≡ length (bytes_of x)

back : (x : Item) (kind : ℕ) (payload more : List ℕ) → kind < 65536 → length payload < 65536 → shaped kind (length payload) ≡ true → item_of kind payload ≡ x → 4 + length payload ≡ length (bytes_of x) → ReadsBack x (record_bytes kind payload ++ more) more
back x kind payload more fits small s e size =
    let k = kind_again kind payload more small fits in
    let p = payload_again kind payload more small in
    record {
      some = omega arith;
      whole = whole_again kind payload more small;
      shape = (λ i. shaped (k i) (length (p i))) ∙ s;
      item = (λ i. item_of (k i) (p i)) ∙ e;
      rest = rest_again kind payload more small;
      size = ap (λ n. 4 + n) (length_again kind payload more small) ∙ size;
    }

pub reads_back : (x : Item) (more : List ℕ) → Fitting x → ReadsBack x (bytes_of x ++ more) more
reads_back (header sites links) more f =
    back (header sites links) 1 (le16 sites ++ le16 links) more (omega arith) (omega arith) refl
    (λ i. header (of_le16 sites f.0 i) (of_le16 links f.1 i)) refl
reads_back (name n) more f =
    back (name n) 2 (le16 n.site ++ n.name) more (omega arith) (omega arith)
    (or_left _ _ (and_from _ _ (le-leb 3 (length (le16 n.site ++ n.name)) (omega arith)) (le-leb (length (le16 n.site ++ n.name)) 34 (omega arith))))
    (λ i. name (record { site = of_le16 n.site f.0 i; name = n.name })) (omega arith)
reads_back (link l) more f =
    back (link l) 3 (le16 l.start ++ (le16 l.end ++ (le32 l.metres ++ (le32 l.poles ++ le16 l.channels)))) more (omega arith) (omega arith) refl
    (λ i. link (record { start = of_le16 l.start f.0 i; end = of_le16 l.end f.1 i; metres = of_le32 l.metres f.2 i; poles = of_le32 l.poles f.3 i; channels = of_le16 l.channels f.4 i; taken = sym f.5.0 i; lit = sym f.5.1 i }))
    refl
