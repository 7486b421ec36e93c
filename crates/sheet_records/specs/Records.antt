-- What the record reader gives.
use Rattle.std.specs.Prelude.{◌≡◌, ℕ, ◌+◌, ◌<◌, true, false, List, ◌++◌, length, drop, Some, None, Ok, Err, Option, Result}
use Rattle.records.specs.Bytes.{record_bytes, cut_short, kind_of, payload_of}
use Rattle.sheet_format.specs.Items.{Item, header, name, link, bytes_of, shaped, item_of}
use Rattle.sheet_records.specs.declared.record.Record.{Record}
use Rattle.sheet_records.specs.declared.record.Record.TheVariants as its
use Rattle.sheet_records.specs.declared.record.Placed.{Placed}
use Rattle.sheet_records.specs.declared.faults.RecordFault.{RecordFault}
use Rattle.sheet_records.specs.declared.faults.RecordFault.TheVariants.{CutShort, WrongShape}

-- What a record says.
abbrev pub item : Record → Item
item (its.Header sites links) = header sites links
item (its.Name site bytes) = name (record { site = site; name = bytes.now })
item (its.Link l) = link l

-- The record of a kind and a payload, where the payload's size fits the kind; the two are its bytes.
abbrev pub Parsed : ℕ → List ℕ → Option Record → Type 0
Parsed kind payload (Some r) = (shaped kind (length payload) ≡ true) × (item r ≡ item_of kind payload) × (bytes_of (item r) ≡ record_bytes kind payload)
Parsed kind payload None = shaped kind (length payload) ≡ false

-- A record that was found: what it says, where it begins and ends, and the bytes that it is.
pub record Found (left : List ℕ) (place : ℕ) (p : Placed) (after : ℕ) : Type 0 where
  pub some : 0 < length left
  pub whole : cut_short left ≡ false
  pub shape : shaped (kind_of left) (length (payload_of left)) ≡ true
  pub says : item p.record ≡ item_of (kind_of left) (payload_of left)
  pub split : left ≡ bytes_of (item p.record) ++ drop (length (bytes_of (item p.record))) left
  pub begins : p.place ≡ place
  pub ends : after ≡ place + length (bytes_of (item p.record))

-- Bytes left that are cut short.
pub record Cut (left : List ℕ) : Type 0 where
  pub some : 0 < length left
  pub cut : cut_short left ≡ true

-- Bytes left that begin with a record of the wrong shape.
pub record Misshapen (left : List ℕ) : Type 0 where
  pub some : 0 < length left
  pub whole : cut_short left ≡ false
  pub shape : shaped (kind_of left) (length (payload_of left)) ≡ false

-- What one call gives of the bytes left at a place, and the place after: only a record that was found moves it.
abbrev pub Next : List ℕ → ℕ → Result (Option Placed) RecordFault → ℕ → Type 0
Next left place (Ok None) after = (length left ≡ 0) × (after ≡ place)
Next left place (Ok (Some p)) after = Found left place p after
Next left place (Err (CutShort at)) after = Cut left × (at ≡ place) × (after ≡ place)
Next left place (Err (WrongShape at)) after = Misshapen left × (at ≡ place) × (after ≡ place)
