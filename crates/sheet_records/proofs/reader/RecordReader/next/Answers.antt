-- The record that `next` found, where it begins and ends.
use Rattle.std.proofs.Common.{◌-◌, length, take, drop, Some, sym, refl, arith, rules}
use Rattle.std.proofs.lemmas.List.{take_rest}
use Rattle.records.specs.Bytes.{First}
use Rattle.sheet_records.specs.Records.{Parsed}
use Rattle.sheet_records.proofs.Leaving.{found}
use Rattle.sheet_records.proofs.reader.RecordReader.next.Goals as goal

pub returns-clause-next : goal.returns-clause-next
returns-clause-next c =
    let sheet = c.args.self.now.sheet.now in
    let place = c.args.self.now.place in
    let head = c.in_ok-head.head in
    let first : First (take (length sheet - place) (drop place sheet)) head.kind head.payload.now head.rest.now = search rules in
    let parsed : Parsed head.kind head.payload.now (Some c.in_ok-record.record) = search rules in
    found sheet _ place (take_rest sheet place) (omega arith) _ _ _ first _ refl (sym c.if-is_empty.ensures) parsed.0 parsed.1 parsed.2
