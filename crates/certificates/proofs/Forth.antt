-- Bytes of the right shape are the bytes of the fields that they write.
use Rattle.std.proofs.Common.{◌≡◌, ℕ, ◌+◌, ◌*◌, ◌<◌, ◌≤◌, true, false, List, [], ◌++◌, length, drop, sym, ap, ◌∙◌, append-nil, arith}
use Rattle.std.proofs.lemmas.List.{length-drop, drop-drop, drop_all, nil_from_length}
use Rattle.std.proofs.lemmas.Bool.{and_parts, eqb-true, leb-true}
use Rattle.records.specs.Bytes.{le16, le32, u16_at, u32_at, record_bytes, cut_short, kind_of, payload_of, rest_of}
use Rattle.records.proofs.Cutting.{Bytes, bytes_drop, bytes_take, written_is, length_payload}
use Rattle.records.proofs.Payloads.{two_at, four_at, u16_fits, u32_fits}
use Rattle.certificates.specs.Format.{route_bytes, payload, certificate_bytes, count_one, count_two, fields_in, right_shape}
use Rattle.certificates.specs.Limits.{Fitting}
use Rattle.certificates.proofs.Routes.{length_links, links_fit, links_forth}

module _ (p : List ℕ) (typed : Bytes p) (least : 18 ≤ length p) (size : length p ≡ 18 + 2 * (count_one p + count_two p)) where
  second : drop (18 + 2 * count_one p) p ≡ route_bytes (fields_in p).two
  second =
      links_forth (count_two p) (drop (18 + 2 * count_one p) p) (bytes_drop _ p typed) (omega (arith, length-drop (18 + 2 * count_one p) p))
      ∙ ap (λ l. route_bytes (fields_in p).two ++ l) (drop_all (2 * count_two p) (drop (18 + 2 * count_one p) p) (omega (arith, length-drop (18 + 2 * count_one p) p)))
      ∙ append-nil _

  routes : drop 18 p ≡ route_bytes (fields_in p).one ++ route_bytes (fields_in p).two
  routes =
      links_forth (count_one p) (drop 18 p) (bytes_drop 18 p typed) (omega (arith, length-drop 18 p))
      ∙ ap (λ l. route_bytes (fields_in p).one ++ l) (drop-drop (2 * count_one p) 18 p ∙ second)

  counts : drop 14 p ≡ le16 (length (fields_in p).one) ++ (le16 (length (fields_in p).two) ++ (route_bytes (fields_in p).one ++ route_bytes (fields_in p).two))
  counts =
      two_at p 14 typed (omega arith) ∙ ap (λ l. le16 (count_one p) ++ l) (two_at p 16 typed (omega arith) ∙ ap (λ l. le16 (count_two p) ++ l) routes)
      ∙ sym (λ i. le16 (length_links (count_one p) (drop 18 p) i) ++ (le16 (length_links (count_two p) (drop (18 + 2 * count_one p) p) i) ++ (route_bytes (fields_in p).one ++ route_bytes (fields_in p).two)))

  pub payload_is : p ≡ payload (fields_in p)
  payload_is =
      two_at p 0 typed (omega arith)
      ∙ ap (λ l. le16 (u16_at p 0) ++ l) (two_at p 2 typed (omega arith)
      ∙ ap (λ l. le16 (u16_at p 2) ++ l) (two_at p 4 typed (omega arith)
      ∙ ap (λ l. le16 (u16_at p 4) ++ l) (four_at p 6 typed (omega arith)
      ∙ ap (λ l. le32 (u32_at p 6) ++ l) (four_at p 10 typed (omega arith)
      ∙ ap (λ l. le32 (u32_at p 10) ++ l) counts))))

  pub fits : length p < 65536 → Fitting (fields_in p)
  fits small = record {
    circuit = u16_fits p 0 typed;
    root = u16_fits p 2 typed;
    target = u16_fits p 4 typed;
    metres = u32_fits p 6 typed;
    poles = u32_fits p 10 typed;
    one = links_fit (count_one p) (drop 18 p) (bytes_drop 18 p typed);
    two = links_fit (count_two p) (drop (18 + 2 * count_one p) p) (bytes_drop _ p typed);
    size = omega (arith, length_links (count_one p) (drop 18 p), length_links (count_two p) (drop (18 + 2 * count_one p) p));
  }

-- a whole record of the right shape
module _ (bytes : List ℕ) (typed : Bytes bytes) (whole : cut_short bytes ≡ false) (shape : right_shape bytes ≡ true) where
  parts : (kind_of bytes ≡ 16) × (18 ≤ length (payload_of bytes)) × (length (payload_of bytes) ≡ 18 + 2 * (count_one (payload_of bytes) + count_two (payload_of bytes))) × (rest_of bytes ≡ [])
  parts =
      let p = and_parts _ _ shape in
      let q = and_parts _ _ p.1 in
      let s = and_parts _ _ q.0 in
      (eqb-true _ _ p.0, leb-true _ _ s.0, eqb-true _ _ s.1, nil_from_length _ (eqb-true _ _ q.1))

  inner : Bytes (payload_of bytes)
  inner = bytes_take (u16_at bytes 0) (drop 4 bytes) (bytes_drop 4 bytes typed)

  pub bytes_are : bytes ≡ certificate_bytes (fields_in (payload_of bytes))
  bytes_are =
      written_is bytes typed whole
      ∙ (λ i. record_bytes (parts.0 i) (payload_of bytes) ++ parts.3 i)
      ∙ append-nil (record_bytes 16 (payload_of bytes))
      ∙ ap (record_bytes 16) (payload_is (payload_of bytes) inner parts.1 parts.2)

  pub fields_fit : Fitting (fields_in (payload_of bytes))
  fields_fit = fits (payload_of bytes) inner parts.1 parts.2 (omega (arith, length_payload bytes whole, u16_fits bytes 0 typed))
