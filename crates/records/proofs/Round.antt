-- A record that was written is read again.
use Rattle.std.proofs.Common.{◌≡◌, ℕ, ◌+◌, ◌<◌, false, List, ◌++◌, length, drop, sym, ap, ◌∙◌, arith}
use Rattle.std.proofs.lemmas.List.{take_at, drop_at, length-append}
use Rattle.records.specs.Bytes.{u16_at, record_bytes, cut_short, kind_of, payload_of, rest_of}
use Rattle.records.proofs.Numbers.{of_le16}
use Rattle.records.proofs.Cutting.{whole}

pub length_record : (kind : ℕ) (payload : List ℕ) → length (record_bytes kind payload) ≡ 4 + length payload
length_record kind payload = omega arith

-- the writing of a record, with more bytes after it
module _ (kind : ℕ) (payload more : List ℕ) (small : length payload < 65536) where
  pub length_again : u16_at (record_bytes kind payload ++ more) 0 ≡ length payload
  length_again = of_le16 (length payload) small

  pub whole_again : cut_short (record_bytes kind payload ++ more) ≡ false
  whole_again = whole (record_bytes kind payload ++ more) (omega (arith, length_again, length-append payload more))

  pub kind_again : kind < 65536 → kind_of (record_bytes kind payload ++ more) ≡ kind
  kind_again fits = of_le16 kind fits

  pub payload_again : payload_of (record_bytes kind payload ++ more) ≡ payload
  payload_again = take_at payload more _ (sym length_again)

  pub rest_again : rest_of (record_bytes kind payload ++ more) ≡ more
  rest_again = ap (λ n. drop (4 + n) (record_bytes kind payload ++ more)) length_again ∙ drop_at (record_bytes kind payload) more (4 + length payload) (length_record kind payload)
